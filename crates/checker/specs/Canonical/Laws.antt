-- The outcome of canonical form is what the table says.
use Rattle.std.specs.Prelude.{ℕ, List, [], ◌∷◌, ◌++◌, ◌≡◌}
use Rattle.std.proofs.Math.Path.{refl}
use Rattle.octets.specs.Head.{Bytes}
use Rattle.term.specs.Term.{Term}
use Rattle.term.specs.Arity.{tag_arities}
use Rattle.rewriting.specs.Table.{Ruled, and_then, rows_after}
use Rattle.rewriting.specs.Table.Laws.{ruled, ruled_then, ruled_and_then, ruled_good}
use Rattle.rewriting.specs.Table.Passes.{need_pass}
use Rattle.protocol.specs.Protocol.{Protocol}
use Rattle.checker.specs.Files.{protocol_ruling, protocol_rows, term_ruling, term_rows}
use Rattle.checker.specs.Files.Laws.{IsFit, IsSmall, protocol_ruled, term_ruled}
use Rattle.checker.specs.Canonical.{term_of, need, sizes, read_rows, room_ruling, room_rows, canonical_outcome, canonical_rows}

module _ (protocol term : List ℕ) where
  -- a fit protocol was read, and under it a small term
  pub record Holds (t : Term) : Type 0 where
    pub is : Protocol
    pub fit : IsFit protocol is
    pub small : IsSmall (tag_arities is.functions) term t

  pub read_ruled : Bytes protocol → Ruled (read_rows protocol term) Holds (term_of protocol term)
  read_ruled bytes =
      ruled_and_then (IsFit protocol) Holds (protocol_rows protocol) (protocol_ruling protocol)
      (λ p. term_rows (tag_arities p.functions) term) (λ p. term_ruling (tag_arities p.functions) term) (protocol_ruled protocol bytes)
      (λ p h e. ruled_good (IsSmall (tag_arities p.functions) term) Holds (λ t s. record { is = p; fit = h; small = s })
      (term_rows (tag_arities p.functions) term) (term_ruling (tag_arities p.functions) term) (term_ruled (tag_arities p.functions) term))

  -- the length of the canonical form of that term
  pub record Length (n : ℕ) : Type 0 where
    pub is : Term
    pub holds : Holds is
    pub needs : n ≡ need is

  -- "Canonical form: 1 to 4, term 3, 8, 15"; the answer is unique
  pub canonical_ruled : Bytes protocol → (output work : ℕ) → Ruled (canonical_rows protocol term output work) Length (canonical_outcome protocol term output work)
  unfolding canonical_outcome
  canonical_ruled bytes output work =
      ruled_then Length (sizes protocol term work) (read_rows protocol term ++ rows_after (term_of protocol term) (room_rows output))
      (and_then (term_of protocol term) (room_ruling output))
      (λ a. ruled_and_then Holds Length (read_rows protocol term) (term_of protocol term) (room_rows output) (room_ruling output) (read_ruled bytes)
      (λ t h e. ruled Length (need_pass 15 output (need t) ∷ []) (need t) (λ b. record { is = t; holds = h; needs = refl })))
