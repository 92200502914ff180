-- A graph is accepted just where no row applies, and the passes answer what the rows say.
use Rattle.std.specs.Prelude.{◌≡◌, refl, ◌↔◌, true, List, leb, eqb}
use Rattle.std.proofs.Common.{sym, ◌∙◌, ap, inl, inr, ⊎_elim, arith}
use Rattle.std.proofs.lemmas.Option.{none-some, same_Some}
use Rattle.lists.specs.Tests.{by_bool, by_option, true_false, eqb_eq, leb_le, leb_gt}
use Rattle.lists.specs.Lists.Laws.{mem_nth, nth_mem}
use Rattle.rewriting.specs.Facts.{Facts, Tested}
use Rattle.rewriting.specs.Graph.{Node, Edge, into, out_of, premise_at, conclusion_at, Accepted}
use Rattle.rewriting.specs.Table.{Ruling, passed, Absent, Ruled}
use Rattle.rewriting.specs.Table.Laws.{ruled, passed_absent, absent_passed}
use Rattle.rewriting.specs.Causes.{graph_rows}
use Rattle.rewriting.specs.Checker.{check_graph}
use Rattle.rewriting.specs.Names.{names_once, once_names, absent_none, none_absent}
use Rattle.rewriting.specs.Refusals.{graph_passes}

module _ (F : Facts) (nodes : List (Node F.Fact)) (edges : List Edge) where
  open F use {Fact, same, linear}

  absent_accepted : Absent (graph_rows (Tested F) linear nodes edges) → Accepted (Tested F) F.linear nodes edges
  absent_accepted (names, (ends, (facts, (fed, (spent, _))))) = record {
    joins = λ e m.
        let (i, s) = mem_nth edges e m in
        by_option (conclusion_at nodes e.source)
        (λ n. absurd (ends i (record { edge = e; stands = s; wrong = inl n })))
        (λ f p.
        by_option (premise_at nodes e.target)
        (λ n. absurd (ends i (record { edge = e; stands = s; wrong = inr (inl n) })))
        (λ g q. record {
          from = f;
          to = g;
          has_source = p;
          has_target = q;
          earlier =
              by_bool (leb e.target.node e.source.node)
              (λ t. absurd (ends i (record { edge = e; stands = s; wrong = inr (inr (leb_le e.target.node e.source.node t)) })))
              (λ n. omega (arith, leb_gt e.target.node e.source.node n));
          facts_same =
              by_bool (same f g)
              (λ t. t)
              (λ n. absurd (facts i
              (record { edge = e; stands = s; from = f; to = g; has_source = p; has_target = q; differ = λ t. true_false (same f g) t n })));
        }));
    one_into = λ a f p.
        by_bool (eqb (into a edges) 1)
        (λ t. eqb_eq (into a edges) 1 t)
        (λ n. absurd (fed a.node (record { index = a.index; fact = f; stands = p; wrong = λ e. true_false true refl (rw e at n) })));
    one_out = λ a f p lf.
        by_bool (leb (out_of a edges) 1)
        (λ t. leb_le (out_of a edges) 1 t)
        (λ n. absurd (spent a.node (record { index = a.index; fact = f; stands = p; is_linear_lem = lf; twice = leb_gt (out_of a edges) 1 n })));
    names_once = names_once nodes (absent_none nodes names);
  }

  accepted_absent : Accepted (Tested F) F.linear nodes edges → Absent (graph_rows (Tested F) linear nodes edges)
  accepted_absent acc = (
    none_absent nodes (once_names nodes acc.names_once),
    (
      (λ k h.
          let j = acc.joins h.edge (nth_mem edges h.edge k h.stands) in
          ⊎_elim
          (λ n. none-some j.from (sym n ∙ j.has_source))
          (λ w. ⊎_elim (λ n. none-some j.to (sym n ∙ j.has_target)) (λ l. omega (arith, j.earlier)) w)
          h.wrong),
      (
        (λ k h.
            let j = acc.joins h.edge (nth_mem edges h.edge k h.stands) in
            let p : h.from ≡ j.from = same_Some _ _ (sym h.has_source ∙ j.has_source) in
            let q : h.to ≡ j.to = same_Some _ _ (sym h.has_target ∙ j.has_target) in
            h.differ (ap (λ g. same g h.to) p ∙ (ap (same j.from) q ∙ j.facts_same))),
        (
          (λ k h. h.wrong (acc.one_into (record { node = k; index = h.index }) h.fact h.stands)),
          (
            (λ k h. omega (arith, acc.one_out (record { node = k; index = h.index }) h.fact h.stands h.is_linear_lem, h.twice)),
            tt,
          ),
        ),
      ),
    ),
  )

  -- "a graph is accepted exactly when": no row of 9 to 13 applies to the accepted graphs, and to no other.
  pub absent_exactly : Absent (graph_rows (Tested F) linear nodes edges) ↔ Accepted (Tested F) F.linear nodes edges
  absent_exactly = (absent_accepted, accepted_absent)

  module _ {A : Type 0} (a : A) where
    -- The passes answer what the table says, and the value that they hand on is good if it is good of an accepted graph.
    pub check_table :
        (Good : A → Type 0) → (Accepted (Tested F) F.linear nodes edges → Good a)
        → Ruled (graph_rows (Tested F) linear nodes edges) Good (check_graph F nodes edges a)
    check_table Good h = ruled Good (graph_passes F nodes edges) a (λ n. h (absent_accepted n))

    -- The passes let through just the accepted graphs.
    pub check_accepted : (check_graph F nodes edges a ≡ passed a) ↔ Accepted (Tested F) F.linear nodes edges
    check_accepted = (
      (λ e. absent_accepted (passed_absent (λ b. b ≡ a) (graph_rows (Tested F) linear nodes edges) (check_graph F nodes edges a) a table e)),
      (λ acc.
          let (b, g, e) = absent_passed (λ b. b ≡ a) (graph_rows (Tested F) linear nodes edges) (check_graph F nodes edges a) table (accepted_absent acc) in
          e ∙ ap {B = Ruling A} passed g),
    )
      where
        table : Ruled (graph_rows (Tested F) linear nodes edges) (λ b. b ≡ a) (check_graph F nodes edges a)
        table = check_table (λ b. b ≡ a) (λ acc. refl)
