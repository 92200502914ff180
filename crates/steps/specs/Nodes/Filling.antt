-- What the reading of nodes leaves in their table: the values of one node, and one row after another.
use Rattle.std.specs.Prelude.{ℕ, ◌+◌, ◌≤◌, ◌<◌, Bool, false, ◌||◌, ◌≡◌, refl, length, get_or, set}
use mathlib.Core.List.{List, [], ◌∷◌, ◌++◌}
use Rattle.std.specs.Prelude.{Option, Some, None, Result, Ok, Err}
use Rattle.std.proofs.Math.Path.{ap, sym}
use Rattle.std.proofs.Common.{ap₂, ◌∙◌, subst, arith, add-one, length-set, get_or-set_same, get_or-set_other}
use Rattle.lists.specs.Choice.{clash, by_size}
use Rattle.lists.specs.Lists.Laws.{any_snoc}
use Rattle.number.specs.Groups.{number_limit}
use Rattle.number.specs.Reading.{Read, got, fault, and_then, read_number, below, many}
use Rattle.number.specs.Reading.Laws.{cut_got}
use Rattle.number.specs.Reading.Many.{many_snoc, many_length, Came, came_none, came_more, came_stop}
use Rattle.term.specs.Term.{Term, symbols}
use Rattle.term.specs.Arity.{tag_arities}
use Rattle.term.specs.Reader.{term}
use Rattle.term.specs.Walk.{holds, walk, walked}
use Rattle.term.specs.declared.Walk.{Walk}
use Rattle.protocol.specs.Figures.{most_variables, variable_limit}
use Rattle.protocol.specs.Protocol.{Rule, Protocol}
use Rattle.protocol.specs.Places.{place_of, value_of}
use Rattle.protocol.specs.Places.Laws.{nth_here, rule_layout, variables_law}
use Rattle.rules.specs.Numbered.{rule_of}
use Rattle.rules.specs.Numbered.Limits.{rule_within}
use Rattle.prepared.specs.Prepared.{slots_of, arities_of, Prepared}
use Rattle.prepared.specs.Finding.{RuleFound, Finds}
use Rattle.steps.specs.declared.nodes.NodeFault.{NodeFault}
use Rattle.steps.specs.declared.nodes.NodeFault.TheVariants as one
use Rattle.steps.specs.Nodes.{Node, node_of_lem, no_node, values, node, nodes_from, broken, no_rule}
use Rattle.steps.specs.Nodes.Exact.{many_from}
use Rattle.steps.specs.Nodes.Unknown.{stops_unknown, stops_broken}
use Rattle.steps.specs.Nodes.Code.{terms_end, node_from, node_of, node_end, end_node, broken_node, no_node_lem, NodesAre}
use Rattle.steps.specs.Table.{place_count, row_at, places_at, sizes_at, held_at, Stand, Sized, holds_any, held_flag, RowsFor, Row}
use Rattle.steps.specs.Table.Laws.{row_kept}
use Rattle.steps.specs.Values.Parts.{no_term}

-- what was there before a place is there still
abbrev pub Before : List ℕ → List ℕ → ℕ → Type 0
Before nodes nodes' at = (i : ℕ) → i < at → get_or nodes' i 0 ≡ get_or nodes i 0

-- ── the values of a node ──
-- where they stand, how many symbols they have, whether one holds a variable
pub record ValuesPlaced (s arities nodes : List ℕ) (to : ℕ) (vs : List Term) : Type 0 where
  pub stand : Stand s arities nodes to vs
  pub sizes : Sized nodes (to + place_count) vs
  pub held : get_or nodes (to + place_count + most_variables) 0 ≡ held_flag (holds_any vs)

-- k values from `at` on: their places from `to` on, their symbols behind the places
pub record ValuesRead (s arities : List ℕ) (at k : ℕ) (nodes nodes' : List ℕ) (to : ℕ) (r : Result ℕ NodeFault) : Type 0 where
  pub is_end : r ≡ terms_end (many (term s arities) k at)
  pub places : (vs : List Term) (e : ℕ) → many (term s arities) k at ≡ got vs e → ValuesPlaced s arities nodes' to vs
  pub before : Before nodes nodes' to

module _ (s arities : List ℕ) (at : ℕ) (to : ℕ) (nodes₀ : List ℕ) where
  -- value w has its place and its symbols in the table
  pub record ValueEntered (w : ℕ) (nodes : List ℕ) : Type 0 where
    pub came : Came (term s arities) at w (get_or nodes (to + w) 0)
    pub size : (t : Term) (e : ℕ) → term s arities (get_or nodes (to + w) 0) ≡ got t e → get_or nodes (to + place_count + w) 0 ≡ symbols t

  -- v values are entered, and the next stands at i
  pub record Placing (v i : ℕ) (found : Bool) (nodes : List ℕ) : Type 0 where
    pub here : Came (term s arities) at v i
    pub held : (vs : List Term) (e : ℕ) → many (term s arities) v at ≡ got vs e → found ≡ holds_any vs
    pub each : (w : ℕ) → w < v → ValueEntered w nodes
    pub before : Before nodes₀ nodes to

  pub placing_none : Placing 0 at false nodes₀
  unfolding many
  placing_none = record {
    here = came_none (term s arities) at;
    held = λ vs e q. (let z : [] ≡ vs = cc in ap holds_any z);
    each = λ w l. absurd (omega arith);
    before = λ i l. refl;
  }

  abbrev Walked : Read Term → Option Walk
  Walked r = walked 0 0 number_limit r

  read_end : (r : Read Term) (w : Walk) → Walked r ≡ Some w → (t : Term) × (r ≡ got t w.end) × (symbols t ≡ w.size) × (holds t 0 0 number_limit ≡ w.hit)
  read_end (got t d) w h =
      let is : walk d (symbols t) (holds t 0 0 number_limit) ≡ w = cc in
      (t, ap (λ (v : Walk). got t v.end) is, ap (λ (v : Walk). v.size) is, ap (λ (v : Walk). v.hit) is)
  read_end fault w h = clash (cc)

  end_fault : (r : Read Term) → Walked r ≡ None → r ≡ fault
  end_fault (got t d) h = clash (cc)
  end_fault fault h = refl

  module _ (v i : ℕ) (found : Bool) (nodes : List ℕ) (few : v < most_variables) (room : to + place_count + most_variables < length nodes)
      (g : Placing v i found nodes) where
    pub placing_more :
        (w : Walk) → walked 0 0 number_limit (term s arities i) ≡ Some w
        → Placing (v + 1) w.end (found || w.hit) (set (set nodes (to + v) i) (to + place_count + v) w.size)
    placing_more w h =
        let e : ℕ = w.end in
        let n : ℕ = w.size in
        let (t, is, size, flag) = read_end (term s arities i) w h in
        let nodes₁ : List ℕ = set nodes (to + v) i in
        let nodes₂ : List ℕ = set nodes₁ (to + 17 + v) n in
        let other : (k : ℕ) → (k ≡ to + v → ⊥) → (k ≡ to + 17 + v → ⊥) → get_or nodes₂ k 0 ≡ get_or nodes k 0 =
        λ k a b. get_or-set_other nodes₁ (to + 17 + v) k n 0 b ∙ get_or-set_other nodes (to + v) k i 0 a in
        let place : get_or nodes₂ (to + v) 0 ≡ i =
        get_or-set_other nodes₁ (to + 17 + v) (to + v) n 0 (λ q. omega arith) ∙ get_or-set_same nodes (to + v) i 0 (omega arith) in
        let count : get_or nodes₂ (to + 17 + v) 0 ≡ n = get_or-set_same nodes₁ (to + 17 + v) n 0 (omega (arith, length-set nodes (to + v) i)) in
        record {
          here = came_more (term s arities) at v i e t g.here is;
          held = λ vs d q.
              let more = many_snoc (term s arities) v at i e g.here.items t g.here.there is in
              let z : got (g.here.items ++ (t ∷ [])) e ≡ got vs d =
              sym more ∙ ap (λ (m : ℕ). many (term s arities) m at) (sym (add-one v)) ∙ q in
              let y : g.here.items ++ (t ∷ []) ≡ vs = cc in
              ap₂ ◌||◌ (g.held g.here.items i g.here.there) (sym flag) ∙ sym (any_snoc (λ v. holds v 0 0 number_limit) g.here.items t) ∙ ap
              holds_any y;
          each = λ w l.
              by_size w v
              (λ m.
              let a : get_or nodes₂ (to + w) 0 ≡ get_or nodes (to + w) 0 = other (to + w) (λ q. omega arith) (λ q. omega arith) in
              let b : get_or nodes₂ (to + 17 + w) 0 ≡ get_or nodes (to + 17 + w) 0 = other (to + 17 + w) (λ q. omega arith) (λ q. omega arith) in
              let old = g.each w m in
              record {
                came = subst (Came (term s arities) at w) (sym a) old.came;
                size = λ t d q. b ∙ old.size t d (ap (term s arities) (sym a) ∙ q);
              })
              (λ m.
              let z : w ≡ v = omega arith in
              subst (λ (k : ℕ). ValueEntered k nodes₂) (sym z)
              record {
                came = subst (Came (term s arities) at v) (sym place) g.here;
                size = λ u d q.
                    let a : got t e ≡ got u d = sym is ∙ ap (term s arities) (sym place) ∙ q in
                    let b : t ≡ u = cc in
                    count ∙ sym size ∙ ap symbols b;
              });
          before = λ k l. other k (λ q. omega arith) (λ q. omega arith) ∙ g.before k l;
        }

    pub placing_fault : (k : ℕ) → v < k → walked 0 0 number_limit (term s arities i) ≡ None → Err one.Broken ≡ terms_end (many (term s arities) k at)
    placing_fault k l h =
        sym (ap terms_end (came_stop (term s arities) at v i k g.here (end_fault (term s arities i) h) l))

  -- all are read
  module _ (k i : ℕ) (found : Bool) (nodes : List ℕ) (few : k ≤ most_variables) (room : to + place_count + most_variables < length nodes)
      (g : Placing k i found nodes) where
    abbrev front : List ℕ
    front = set nodes (to + k) i

    abbrev nodes' : List ℕ
    nodes' = set front (to + place_count + most_variables) (held_flag found)

    kept : (j : ℕ) → j < to + place_count + most_variables → (j ≡ to + k → ⊥) → get_or nodes' j 0 ≡ get_or nodes j 0
    kept j l h =
        get_or-set_other front (to + place_count + most_variables) j (held_flag found) 0 (λ q. omega arith) ∙ get_or-set_other nodes (to + k) j i 0 h

    last_place : get_or nodes' (to + k) 0 ≡ i
    last_place = get_or-set_other front (to + place_count + most_variables) (to + k) (held_flag found) 0 (λ q. omega arith) ∙ get_or-set_same nodes (to + k) i 0
        (omega arith)

    came_at : (w : ℕ) → w ≤ k → Came (term s arities) at w (get_or nodes' (to + w) 0)
    came_at w l =
        by_size w k
        (λ m. subst (Came (term s arities) at w) (sym (kept (to + w) (omega arith) (λ q. omega arith))) (g.each w m).came)
        (λ m.
        let z : w ≡ k = omega arith in
        subst (λ (j : ℕ). Came (term s arities) at j (get_or nodes' (to + j) 0)) (sym z)
        (subst (Came (term s arities) at k) (sym last_place) g.here))

    module _ (vs : List Term) (e : ℕ) (h : many (term s arities) k at ≡ got vs e) where
      many_are : length vs ≡ k
      many_are = many_length (term s arities) k at e vs h

      stands : Stand s arities nodes' to vs
      stands v l =
          let m : v < k = omega (arith, many_are) in
          let z = nth_here (term s arities) no_term k at e v vs h m in
          let a = came_at v (omega arith) in
          let b = came_at (v + 1) (omega arith) in
          let here : term s arities (get_or nodes' (to + v) 0) ≡ got (get_or vs v no_term) z.next =
          ap (term s arities) (sym (ap place_of a.there)) ∙ z.reads in
          let c = many_snoc (term s arities) v at (get_or nodes' (to + v) 0) z.next a.items (get_or vs v no_term) a.there here in
          let d : z.next ≡ get_or nodes' (to + (v + 1)) 0 =
          ap place_of (sym c ∙ ap (λ (j : ℕ). many (term s arities) j at) (sym (add-one v)) ∙ b.there) in
          here ∙ ap (got (get_or vs v no_term)) d

      pub all_placed : ValuesPlaced s arities nodes' to vs
      all_placed = record {
        stand = stands;
        sizes = λ v l.
            let m : v < k = omega (arith, many_are) in
            kept (to + 17 + v) (omega arith) (λ q. omega arith)
            ∙ (g.each v m).size (get_or vs v no_term) (get_or nodes' (to + (v + 1)) 0)
            (ap (term s arities) (sym (kept (to + v) (omega arith) (λ q. omega arith))) ∙ stands v l);
        held =
            get_or-set_same front (to + place_count + most_variables) (held_flag found) 0 (omega (arith, length-set nodes (to + k) i))
            ∙ ap held_flag (g.held vs e h);
      }

    pub values_read : ValuesRead s arities at k nodes₀ nodes' to (Ok i)
    values_read = record {
      is_end = sym (ap terms_end g.here.there);
      places = all_placed;
      before = λ j l. kept j (omega arith) (λ q. omega arith) ∙ g.before j l;
    }

  pub values_broken : (k : ℕ) (nodes : List ℕ) → Err one.Broken ≡ terms_end (many (term s arities) k at) → Before nodes₀ nodes to
      → ValuesRead s arities at k nodes₀ nodes to (Err one.Broken)
  values_broken k nodes h b = record {
    is_end = h;
    places = λ vs e q. clash (let z : Err one.Broken ≡ Ok e = h ∙ ap terms_end q in cc);
    before = b;
  }

-- ── a node ──
-- a node whose rule number was read went into row j
pub record NodeEntered (P : Protocol) (p s : List ℕ) (number at : ℕ) (nodes nodes' : List ℕ) (j : ℕ) (r : Result ℕ NodeFault) : Type 0 where
  pub is_end : r ≡ node_from P s (rule_of P number) at
  pub row : (x : Node) (e : ℕ) → values P s number (rule_of P number) at ≡ got x e → Row p s nodes' j x
  pub before : Before nodes nodes' (row_at j)

-- the node at a place
pub record NodeRead (P : Protocol) (p s : List ℕ) (at : ℕ) (nodes nodes' : List ℕ) (j : ℕ) (r : Result ℕ NodeFault) : Type 0 where
  pub is_end : r ≡ node_end P s at
  pub row : (x : Node) (e : ℕ) → node P s at ≡ got x e → Row p s nodes' j x
  pub before : Before nodes nodes' (row_at j)

-- the code's two cases of a rule number
module _ (p : List ℕ) (P : Protocol) (number : ℕ) {r : Option ℕ} where
  pub as_found : {place : ℕ} → r ≡ Some place → Finds p P number r → RuleFound p P number place
  as_found e x = subst (Finds p P number) e x

  pub as_none : r ≡ None → Finds p P number r → rule_of P number ≡ None
  as_none e x = subst (Finds p P number) e x

module _ {P : Protocol} {p : List ℕ} (f : Prepared p P) (s : List ℕ) (number at : ℕ) (nodes : List ℕ) (j : ℕ) where
  -- its rule was found
  module _ (place k : ℕ) (x : RuleFound p P number place) (many_are : k ≡ value_of (below p variable_limit place)) where
    sorts_are : k ≡ length x.its.sorts
    sorts_are =
        many_are ∙ variables_law p (slots_of p) (arities_of p) place x.its (rule_layout p (slots_of p) (arities_of p) place x.its x.here)

    pub variables_few : k ≤ most_variables
    variables_few = omega (arith, sorts_are, (rule_within P f.body.within number x.its x.is).laid.few)

    pub found_entered :
        (nodes₁ nodes₂ : List ℕ) (r : Result ℕ NodeFault) → nodes₁ ≡ set nodes (row_at j) number → row_at j < length nodes
        → ValuesRead s (slots_of p) at k nodes₁ nodes₂ (places_at j) r → NodeEntered P p s number at nodes nodes₂ j r
    found_entered nodes₁ nodes₂ r h room v =
        let same : many (term s (slots_of p)) k at ≡ many (term s (tag_arities P.functions)) (length x.its.sorts) at =
        ap₂ (λ (a : List ℕ) (n : ℕ). many (term s a) n at) f.body.slotted sorts_are in
        record {
          is_end = v.is_end ∙ ap terms_end same ∙ sym (ap (λ (o : Option Rule). node_from P s o at) x.is);
          row = λ y e q.
              cut_got (many (term s (tag_arities P.functions)) (length x.its.sorts) at) _
              (sym (ap (λ (o : Option Rule). values P s number o at) x.is) ∙ q)
              (λ vs c hv q.
              let a : node_of_lem number vs ≡ y = cc in
              let n = many_length (term s (tag_arities P.functions)) (length x.its.sorts) at c vs hv in
              let b = v.places vs c (same ∙ hv) in
              subst (Row p s nodes₂ j) a
              record {
                few = omega (arith, n, sorts_are, variables_few);
                rule =
                    v.before (row_at j) (omega arith) ∙ ap (λ (l : List ℕ). get_or l (row_at j) 0) h
                    ∙ get_or-set_same nodes (row_at j) number 0 room;
                places = b.stand;
                sizes = (let z : places_at j + place_count ≡ sizes_at j = omega arith in subst (λ (i : ℕ). Sized nodes₂ i vs) z b.sizes);
                held = (let z : held_at j ≡ places_at j + place_count + most_variables = omega arith in ap (λ (i : ℕ). get_or nodes₂ i 0) z ∙ b.held);
              });
          before = λ i l.
              v.before i (omega arith) ∙ ap (λ (m : List ℕ). get_or m i 0) h
              ∙ get_or-set_other nodes (row_at j) i number 0 (λ q. omega arith);
        }

  -- there is none
  pub none_entered : rule_of P number ≡ None → NodeEntered P p s number at nodes nodes j (Err one.NoRule)
  none_entered h = record {
    is_end = sym (ap (λ (o : Option Rule). node_from P s o at) h);
    row = λ x e q. clash (let z : fault ≡ got x e = sym (ap (λ (o : Option Rule). values P s number o at) h) ∙ q in cc);
    before = λ i l. refl;
  }

module _ {P : Protocol} {p s : List ℕ} (at : ℕ) (nodes nodes' : List ℕ) (j : ℕ) where
  pub number_entered :
      (number e : ℕ) (r : Result ℕ NodeFault) → read_number s at ≡ got number e → NodeEntered P p s number e nodes nodes' j r → NodeRead P p s at nodes nodes' j r
  unfolding node_end node
  number_entered number e r h n = record {
    is_end = n.is_end ∙ sym (ap (node_of P s) h);
    row = λ x d q. n.row x d (sym (ap (λ (o : Read ℕ). and_then o (λ m c. values P s m (rule_of P m) c)) h) ∙ q);
    before = n.before;
  }

  pub number_broken : read_number s at ≡ fault → NodeRead P p s at nodes nodes j (Err one.Broken)
  unfolding node_end node
  number_broken h = record {
    is_end = sym (ap (node_of P s) h);
    row = λ x d q. clash (let z : fault ≡ got x d = sym (ap (λ (o : Read ℕ). and_then o (λ m c. values P s m (rule_of P m) c)) h) ∙ q in cc);
    before = λ i l. refl;
  }

-- ── the loop: j nodes were read, each into its row, and it stands at i ──
module _ (P : Protocol) (p s : List ℕ) (at : ℕ) where
  pub record RowFrom (k : ℕ) (nodes : List ℕ) : Type 0 where
    pub place : ℕ
    pub came : Came (node P s) at k place
    pub row : (x : Node) (e : ℕ) → node P s place ≡ got x e → Row p s nodes k x

  pub record Passed (j i : ℕ) (nodes : List ℕ) : Type 0 where
    pub each : (k : ℕ) → k < j → RowFrom k nodes
    pub here : Came (node P s) at j i

  pub passed_none : (nodes : List ℕ) → Passed 0 at nodes
  passed_none nodes = record { each = λ k l. absurd (omega arith); here = came_none (node P s) at }

  module _ (j i : ℕ) (nodes nodes' : List ℕ) (c : Passed j i nodes) where
    pub passed_more : (e : ℕ) (r : Result ℕ NodeFault) → r ≡ Ok e → NodeRead P p s i nodes nodes' j r → Passed (j + 1) e nodes'
    passed_more e r is n =
        let (x, g) = end_node P s i (sym n.is_end ∙ is) in
        record {
          each = λ k l.
              by_size k j
              (λ m.
              let o = c.each k m in
              record { place = o.place; came = o.came; row = λ y d q. row_kept p s nodes nodes' k j y m n.before (o.row y d q) })
              (λ m.
              let z : k ≡ j = omega arith in
              subst (λ (b : ℕ). RowFrom b nodes') (sym z) record { place = i; came = c.here; row = n.row });
          here = came_more (node P s) at j i e x c.here g;
        }

    module _ (n : ℕ) (l : j < n) {r : Result ℕ NodeFault} (h : NodeRead P p s i nodes nodes' j r) where
      pub passed_broken : r ≡ Err one.Broken → nodes_from P s 1 n at ≡ broken
      passed_broken is =
          let (u, g) = broken_node P s i (sym h.is_end ∙ is) in
          stops_broken P s i u g j 1 n at c.here.items c.here.there l

      pub passed_unknown : r ≡ Err one.NoRule → nodes_from P s 1 n at ≡ no_rule (j + 1)
      passed_unknown is =
          let k : 1 + j ≡ j + 1 = omega arith in
          stops_unknown P s i (no_node_lem P s i (sym h.is_end ∙ is)) j 1 n at c.here.items c.here.there l ∙ ap no_rule k

  pub passed_all : (n j i : ℕ) (nodes : List ℕ) → Passed j i nodes → j ≡ n → RowsFor nodes n → NodesAre (nodes_from P s 1 n at) p s nodes n i
  passed_all n j i nodes c h long =
      let xs : List Node = c.here.items in
      let there : many (node P s) n at ≡ got xs i = ap (λ (k : ℕ). many (node P s) k at) (sym h) ∙ c.here.there in
      record {
        items = xs;
        there = many_from P s 1 n at i xs there;
        count = many_length (node P s) n at i xs there;
        long = long;
        rows = λ k l.
            let o = c.each k (omega arith) in
            let z = nth_here (node P s) no_node n at i k xs there l in
            o.row (get_or xs k no_node) z.next (ap (node P s) (sym (ap place_of o.came.there)) ∙ z.reads);
      }
