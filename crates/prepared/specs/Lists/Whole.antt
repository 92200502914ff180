-- The table stands behind the body of a prepared protocol.
use Rattle.std.specs.Prelude.{Result, Ok, ℕ, ◌+◌, ◌*◌, ◌/◌, ◌%◌, ◌<◌, List, ◌++◌, ◌≡◌, length, drop}
use Rattle.std.specs.Prelude.{Some}
use Rattle.std.proofs.Common.{ap, sym, ◌∙◌, subst, arith, length-append, length-drop, take_at}
use Rattle.protocol.specs.Figures.{list_count}
use Rattle.lists.specs.Asks.{Asks}
use Rattle.octets.specs.Head.{Bytes}
use Rattle.protocol.specs.Protocol.{Rule, Protocol, list_of}
use Rattle.rules.specs.Numbered.{rule_of}
use Rattle.protocol.specs.declared.index.Counts.{Counts}
use Rattle.rules.specs.declared.fit.Unfit.{Unfit}
use Rattle.prepared.specs.Sections.{rule_count, body_length, prepared_length, entry_count}
use Rattle.prepared.specs.Prepared.{Body, body_of, list_entry, fact_entry, ListAt, fact_place_in}
use Rattle.prepared.specs.Prepared.Longer.{body_longer, list_longer, fact_longer}
use Rattle.prepared.specs.Filling.{BodyAs, WhereBody}
use Rattle.prepared.specs.Lists.{ListIn, Listing, PreparedAs}

module _ (file p : List ℕ) (long : length p ≡ prepared_length) (bytes : Bytes p) {nr : ℕ} (w : BodyAs file nr (body_of p)) (table : Listing p entry_count) where
  abbrev P : Protocol
  P = w.its

  -- the entries of list i of rule n
  row : (n i : ℕ) (u : Rule) → n < rule_count → i < list_count → rule_of P n ≡ Some u → ListIn p u (3 * n + i)
  row n i u a b is = let d : (3 * n + i) / 3 ≡ n = omega arith in table (3 * n + i) (omega arith) P u w.is (ap (rule_of P) d ∙ is)

  list_here : (n i : ℕ) (u : Rule) → n < rule_count → i < list_count → rule_of P n ≡ Some u → ListAt (body_of p) u i (list_entry p n i)
  list_here n i u a b is =
      let m : (3 * n + i) % 3 ≡ i = omega arith in
      subst (λ (c : ℕ). ListAt (body_of p) u c (list_entry p n i)) m (row n i u a b is).here

  fact_here :
      (n list i : ℕ) (u : Rule) → n < rule_count → list < list_count → i < length (list_of list u) → rule_of P n ≡ Some u
      → fact_entry p n list i ≡ fact_place_in p (list_entry p n list) i
  fact_here n list i u a b l is =
      let m : (3 * n + list) % 3 ≡ list = omega arith in
      (row n list u a b is).each i (omega (arith, ap (λ (c : ℕ). length (list_of c u)) m))
      ∙ fact_longer p bytes (omega arith) P w.is (list_of list u) (list_entry p n list) i (list_here n list u a b is) l

  pub all_prepared : PreparedAs file p
  all_prepared = record {
    its = P;
    reads = w.reads;
    is = record {
      long = long;
      body = body_longer p bytes (omega arith) P w.is;
      lists = λ n i u a b is. list_longer p bytes (omega arith) P w.is u i (list_entry p n i) (list_here n i u a b is);
      facts = fact_here;
    };
  }

-- what preparing the front of a slice leaves
module _ (q p : List ℕ) (len : length q ≡ body_length) (long : length p ≡ prepared_length) where
  joined : body_of (q ++ drop body_length p) ≡ q
  joined = take_at q (drop body_length p) body_length len

  pub joined_long : length (q ++ drop body_length p) ≡ prepared_length
  joined_long = length-append q (drop body_length p) ∙ omega (arith, length-drop body_length p)

  module _ (file : List ℕ) {r : Result Counts Unfit} {counts : Counts} (e : r ≡ Ok counts) (w : WhereBody file r q) where
    pub joined_as : BodyAs file counts.rules (body_of (q ++ drop body_length p))
    joined_as = subst (BodyAs file counts.rules) (sym joined) (subst (λ (x : Result Counts Unfit). WhereBody file x q) e w)

    pub joined_ready : Asks (Body (body_of (q ++ drop body_length p)))
    joined_ready = (joined_as.its, joined_as.is)
