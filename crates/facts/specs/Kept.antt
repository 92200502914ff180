-- A fact whose canonical bytes are kept at the start of the output, to be compared with others that are written behind them.
use Rattle.std.specs.Prelude.{ℕ, ◌-◌, ◌≤◌, List, Bool, ◌&&◌, ◌≡◌, length, take, drop, eqb}
use Rattle.std.proofs.Common.{ap₂, ◌∙◌, arith}
use Rattle.octets.specs.Compare.{compare_bytes, is_equal}
use Rattle.protocol.specs.Protocol.{Fact, Protocol}
use Rattle.protocol.specs.Protocol.Limits.{Within}
use Rattle.steps.specs.Facts.Bytes.{canon_bytes, fact_by_bytes}
use Rattle.steps.specs.Facts.Formed.{FactFormed}
use Rattle.facts.specs.declared.writing.Wanted.TheVariants as want
use Rattle.facts.specs.declared.marks.KeptFact.{KeptFact}
use Rattle.facts.specs.Writing.{fact_room, wanted_bytes, Put}
use Rattle.facts.specs.Calls.{Room, TellsFacts}
use Rattle.facts.specs.Calls.Meaning.{facts_told}
use Rattle.facts.specs.Calls.Two.{first_part, second_part}
use Rattle.facts.specs.Marks.{mark_of}

-- the fact is kept in the output; callers see no bytes of it
pub record Keeps (out : List ℕ) (k : KeptFact) (f : Fact) : Type 0 where
  pub symbols : k.symbol ≡ f.symbol
  pub mark_is : k.mark ≡ mark_of f
  bytes : take k.end out ≡ canon_bytes f.terms
  pub few : k.end ≤ fact_room

-- the answer says whether a fact that is kept, and another, are the same
abbrev pub SameAs : List ℕ → KeptFact → Protocol → Fact → Bool → Type 0
SameAs out k P g r = (f : Fact) → FactFormed P f → Keeps out k f → TellsFacts P f g r

-- ── laws ──
-- it is kept as long as its bytes stay
pub keeps_on : {out out' : List ℕ} {k : KeptFact} {f : Fact} → Keeps out k f → take k.end out' ≡ take k.end out → Keeps out' k f
keeps_on h e = record { symbols = h.symbols; mark_is = h.mark_is; bytes = e ∙ h.bytes; few = h.few }

pub written_kept :
    (f : Fact) (out out' : List ℕ) (k : KeptFact) → Put out 0 out' k.end (wanted_bytes want.All f) → k.symbol ≡ f.symbol → k.mark ≡ mark_of f → Keeps out'
    k f
written_kept f out out' k p hy hm =
    record { symbols = hy; mark_is = hm; bytes = p.wrote.bytes; few = omega (arith, p.wrote.ends, p.few) }

-- another is written behind it
module _ (out out₂ : List ℕ) (k : KeptFact) (n : ℕ) (room : Room out fact_room) (few : k.end ≤ fact_room) where
  pub kept_room : Room out k.end
  kept_room = record { enough = omega (arith, room.enough); short = room.short }

  module _ (q : List ℕ) (b : Put out k.end out₂ n q) (same : length out₂ ≡ length out) where
    pub behind_inside : (k.end ≤ n) × (n ≤ length out₂)
    behind_inside = (omega (arith, b.wrote.ends), omega (arith, b.few, b.wrote.ends, room.enough))

    pub kept_stays : take k.end out₂ ≡ take k.end out
    kept_stays = first_part out out₂ k.end n q (omega (arith, room.enough)) b

    pub same_as :
        (P : Protocol) → Within P → (g : Fact) → FactFormed P g → q ≡ wanted_bytes want.All g → (y : ℕ) → y ≡ g.symbol → (t : Bool)
        → t ≡ is_equal (compare_bytes (take k.end out₂) (take (n - k.end) (drop k.end out₂)))
        → (f : Fact) → FactFormed P f → Keeps out k f → TellsFacts P f g (eqb k.symbol y && t)
    same_as P fit g v e y hy t ht f w h =
        facts_told P fit f g w v (eqb k.symbol y && t) (ap₂ ◌&&◌ (ap₂ eqb h.symbols hy)
        (ht ∙ ap₂ (λ (x z : List ℕ). is_equal (compare_bytes x z)) (kept_stays ∙ h.bytes)
        (second_part out out₂ k.end n q (omega (arith, room.enough)) b ∙ e))
        ∙ fact_by_bytes P f g w v)
