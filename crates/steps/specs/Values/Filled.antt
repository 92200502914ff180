-- The terms of a node's rule with the node's values filled in: the sizes in the node's row are the values', and the rule's test is the node's.
use Rattle.std.specs.Prelude.{ℕ, ◌+◌, ◌*◌, ◌≤◌, ◌<◌, List, Bool, ◌≡◌, length, get_or, take, drop}
use Rattle.std.proofs.Common.{ap, sym, ◌∙◌, arith, length-drop, get_or-take, get_or-drop, length-take-le}
use Rattle.std.proofs.Math.ListN.{get_or-eq_default}
use Rattle.lists.specs.Choice.{by_size}
use Rattle.lists.specs.All.Laws.{same_inside}
use Rattle.octets.specs.Limits.{longest}
use Rattle.octets.specs.Head.{Bytes, stands_within}
use Rattle.number.specs.Reading.{got}
use Rattle.term.specs.Term.{variable, Term, leaf, symbols}
use Rattle.term.specs.Term.Laws.{symbols_bytes, encode_some}
use Rattle.term.specs.Reader.{term}
use Rattle.term.specs.Reader.Exact.{term_form}
use Rattle.protocol.specs.Protocol.{Protocol}
use Rattle.prepared.specs.Prepared.{slots_of}
use Rattle.steps.specs.Nodes.{Node}
use Rattle.steps.specs.Facts.{value_at}
use Rattle.steps.specs.Table.{sizes_at, NodeIn}
use Rattle.steps.specs.Values.Tests.{rule_ok, of_rule, node_terms_ok}
use Rattle.steps.specs.Values.Weights.{size_in}
use Rattle.steps.specs.Values.Parts.{no_term, rule_small, rule_weighed}

-- ── the sizes of a node's values ──
-- a value has no more symbols than the file has bytes
term_small_lem : (s arities : List ℕ) → Bytes s → (t : Term) (at e : ℕ) → term s arities at ≡ got t e → symbols t ≤ length s
term_small_lem s arities bytes t at e h =
    let f = term_form s arities bytes t at e h in
    omega (arith, symbols_bytes t, f.1.ends, stands_within f.1 (encode_some t))

module _ {p s nodes : List ℕ} {j : ℕ} {P : Protocol} {x : Node} (h : NodeIn p s nodes j P x) where
  module _ (m : ℕ) (many_are : m ≡ length x.values) where
    abbrev pub sizes_of : List ℕ
    sizes_of = take m (drop (sizes_at j) nodes)

    size_at : (v : ℕ) → v < length x.values → size_in sizes_of v ≡ symbols (get_or x.values v no_term)
    size_at v l =
        get_or-take m (drop (sizes_at j) nodes) v 1 (omega arith) ∙ get_or-drop (sizes_at j) nodes v 1
        ∙ same_inside nodes (35 * j + 18 + v) 1 0 (omega (arith, h.few, h.long, h.row.few)) ∙ h.row.sizes v l

    outside : (v : ℕ) → length x.values ≤ v → size_in sizes_of v ≡ 1
    outside v l =
        let n : length sizes_of ≡ m =
        length-take-le m (drop (sizes_at j) nodes) (omega (arith, length-drop (sizes_at j) nodes, h.few, h.long, h.row.few)) in
        let o : length sizes_of ≤ v = omega arith in
        get_or-eq_default sizes_of 1 o

    sizes_are : (v : ℕ) → size_in sizes_of v ≡ symbols (value_at x.values v)
    sizes_are v =
        by_size v (length x.values)
        (λ l. size_at v l ∙ ap symbols (same_inside x.values v no_term (leaf variable v) l))
        (λ l. outside v l ∙ sym (ap symbols (get_or-eq_default x.values (leaf variable v) l)))

    pub sizes_small : Bytes s → (v : ℕ) → size_in sizes_of v ≤ longest
    sizes_small bytes v =
        by_size v (length x.values)
        (λ l. omega (arith, size_at v l, h.short, term_small_lem s (slots_of p) bytes (get_or x.values v no_term) _ _ (h.row.places v l)))
        (λ l. omega (arith, outside v l))

    -- the rule's test is the node's
    pub terms_test : (b : Bool) → b ≡ rule_small (size_in sizes_of) h.within.is → b ≡ node_terms_ok P x
    terms_test b g =
        g ∙ rule_weighed (size_in sizes_of) x.values sizes_are h.within.is ∙ sym (ap (of_rule (rule_ok x.values)) h.within.known)
