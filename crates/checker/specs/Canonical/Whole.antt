-- From the verdict on the protocol file to the whole call.
use Rattle.std.specs.Prelude.{ℕ, ◌≤◌, List, ◌≡◌, length}
use Rattle.std.proofs.Common.{ap, sym, ◌∙◌, subst}
use Rattle.checker.specs.Answer.{work_need}
use Rattle.lists.specs.Asks.{Asks, Promises}
use Rattle.octets.specs.Head.{Bytes}
use Rattle.protocol.specs.Protocol.{protocol}
use Rattle.protocol.specs.Index.{Entries}
use Rattle.rules.specs.Fit.{sound, judged}
use Rattle.rules.specs.Fit.Laws.{verdict_of, Indexes}
use Rattle.protocol.specs.declared.index.Counts.{Counts}
use Rattle.rules.specs.declared.fit.Unfit.{Unfit}
use Rattle.std.specs.Prelude.{Result, Ok}
use Rattle.checker.specs.Answer.{Written}
use Rattle.checker.specs.Files.{protocol_limit, term_limit, term_ruling}
use Rattle.checker.specs.Files.Verdict.{ruled_sound}
use Rattle.checker.specs.Canonical.Contracts.{Under, Judges, Inside}
use Rattle.checker.specs.Canonical.Inside.{inside_judged}

-- ── a sound protocol ──
module _ (file arities symbols flags places term : List ℕ) where
  entries :
      (r : Result Counts Unfit) (c : Counts) → r ≡ Ok c → Indexes file r arities symbols flags places → Entries file c.symbols c.rules arities symbols flags places
  entries r c e i = subst (λ (q : Result Counts Unfit). Indexes file q arities symbols flags places) e i

  under : (c : Counts) (i : Entries file c.symbols c.rules arities symbols flags places) → Bytes term → length term ≤ term_limit → Under arities term i.is.functions
  under c i b l = record { table = i.slotted; bytes = b; short = l }

  pub sound_asks :
      (r : Result Counts Unfit) (c : Counts) → r ≡ Ok c → Indexes file r arities symbols flags places → Bytes term → length term ≤ term_limit
      → Asks (Under arities term)
  sound_asks r c e i b l = let x = entries r c e i in (x.is.functions, under c x b l)

  pub sound_inside :
      (r : Result Counts Unfit) (c : Counts) → r ≡ Ok c → verdict_of r ≡ judged (protocol file) → Indexes file r arities symbols flags places
      → Bytes term → length file ≤ protocol_limit → length term ≤ term_limit → (output output' : List ℕ) (w : Written)
      → ((free : List ℕ) → Under arities term free → Judges (term_ruling arities term) output output' w)
      → Promises (λ (work : ℕ). work_need ≤ work) (Inside file term output output' w)
  sound_inside r c e v i b p l output output' w j =
      let x = entries r c e i in
      let h : judged (protocol file) ≡ sound = sym v ∙ ap verdict_of e in
      inside_judged file term output w p l x.is output' (ruled_sound file x.is (length file) x.reads h)
      (subst (λ (a : List ℕ). Judges (term_ruling a term) output output' w) x.slotted (j x.is.functions (under c x b l)))
