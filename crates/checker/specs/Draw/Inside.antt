-- From what the functions inside the call draw find to what the call promises.
use Rattle.std.specs.Prelude.{ℕ, ◌+◌, ◌≤◌, ◌<◌, List, ◌++◌, ◌≡◌, refl, length}
use Rattle.std.proofs.Math.Path.{ap, sym}
use Rattle.std.proofs.Common.{ap₂, ◌∙◌, subst, arith, length-append}
use Rattle.octets.specs.Head.{Bytes}
use Rattle.octets.specs.Splice.{splice}
use Rattle.number.specs.Layout.{listed}
use Rattle.rewriting.specs.Graph.{Edge}
use Rattle.steps.specs.Nodes.{Node, most_nodes}
use Rattle.steps.specs.Nodes as files
use Rattle.steps.specs.Causes.{steps_item, list_ruling}
use Rattle.steps.specs.Causes.Code.{counted}
use Rattle.steps.specs.Causes.Good.{GoodNodes, WhereGood, good_right}
use Rattle.std.specs.Prelude.{Result, Ok, Err}
use Rattle.rewriting.specs.declared.Refusal.{Refusal}
use Rattle.rewriting.specs.Answers.{answered}
use Rattle.graph.specs.Ruling.{counted_refused}
use Rattle.writer.specs.Sources.{Chosen}
use Rattle.lists.specs.Asks.{Promises}
use Rattle.rewriting.specs.Table.{Ruling, passed, refused, and_then}
use Rattle.protocol.specs.Protocol.{Protocol}
use Rattle.protocol.specs.Protocol as protocols
use Rattle.rules.specs.Fit.{judged}
use Rattle.rules.specs.Fit.Laws.{verdict_of}
use Rattle.protocol.specs.declared.index.Counts.{Counts}
use Rattle.rules.specs.declared.fit.Unfit.{Unfit}
use Rattle.prepared.specs.Prepared.{Prepared}
use Rattle.prepared.specs.Lists.{WherePrepared}
use Rattle.steps.specs.WellFormed.{steps_limit}
use Rattle.graph.specs.Graph.{Graph, graph_of_lem, encode_edge, encode_graph}
use Rattle.checker.specs.Answer.{Written}
use Rattle.checker.specs.Answer.{work_need, written, output_after}
use Rattle.checker.specs.Files.{protocol_limit, protocol_ruling}
use Rattle.checker.specs.Files.Verdict.{ruled_sound}
use Rattle.checker.specs.Check.Inside.{its}
use Rattle.checker.specs.Draw.{steps_under, room_of, draw_outcome, graph_bytes, draw_output}
use Rattle.checker.specs.Draw.Cases.{drawn_under, sized, output_kept}
use Rattle.checker.specs.Answer.Judged.{judges_refused, judges_passed, judges_short, judges_written, judges_as}
use Rattle.checker.specs.Draw.Steps.{with_edges, freely, steps_stopped, steps_good, good_bytes}
use Rattle.checker.specs.Draw.Bounds.{most_number, steps_bounded}
use Rattle.checker.specs.Draw.Contracts.{Judges, behind_steps, Edged, Drawable, Inside}

-- ── the edges: 15, or the graph is written ──
module _ (steps output : List ℕ) (es : List Edge) (len need : ℕ) (counted : len ≡ length (listed encode_edge es)) (sum : need ≡ length steps + len)
  where
    need_is : need ≡ length (behind_steps steps es)
    need_is = omega (arith, counted, sum, length-append steps (listed encode_edge es))

    pub edged_short : (w : Written) → length output < need → written w ≡ refused 15 need → Edged steps output output w es
    edged_short w l q =
        judges_short (behind_steps steps) (passed es) output w es refl (omega (arith, l, need_is)) (q ∙ ap (λ (k : ℕ). refused 15 k) need_is)

    pub edged_room : need ≤ length output → length steps + length (listed encode_edge es) ≤ length output
    edged_room l = omega (arith, counted, sum)

    pub edged_written : (w : Written) → need ≤ length output → (output' : List ℕ) → output' ≡ splice output 0 (behind_steps steps es) → written w ≡ passed need
        → Edged steps output output' w es
    edged_written w l output' e q =
        subst (λ (o : List ℕ). Edged steps output o w es) (sym e)
        (judges_written (behind_steps steps) (passed es) output w es refl (omega (arith, l, need_is)) (q ∙ ap (λ (k : ℕ). passed k) need_is))

-- ── the nodes: 14, or their edges ──
module _ {p steps nodes : List ℕ} {n : ℕ} {P : Protocol} {xs : List Node} (d : Drawable p steps nodes n P xs) where
  pub drawn_edges :
      (output output' : List ℕ) (w : Written) {edges : List ℕ} {m : ℕ} (c : Chosen edges m P xs) → Edged steps output output' w c.is
      → Judges (steps_under P steps) output output' w
  drawn_edges output output' w c j =
      judges_passed encode_graph (steps_under P steps) output w (graph_of_lem xs c.is) (d.under ∙ ap (with_edges P xs) c.drawn) output'
      (judges_as (behind_steps steps) encode_graph c.is (graph_of_lem xs c.is) (ap (λ (l : List ℕ). l ++ listed encode_edge c.is) d.bytes) output output' w
      j)

  module _ {k : ℕ} (missing : freely P xs ≡ refused 14 k) where
    missing_is : steps_under P steps ≡ refused 14 k
    missing_is = d.under ∙ ap (with_edges P xs) missing

    pub missing_few : Bytes steps → k ≤ most_nodes
    missing_few bytes = (steps_bounded P steps bytes d.right.stand.prepared.body.within 14 k missing_is).1

    pub drawn_missing : (output : List ℕ) (w : Written) → written w ≡ refused 14 k → Judges (steps_under P steps) output output w
    drawn_missing output w q = judges_refused encode_graph (steps_under P steps) output w 14 k missing_is q

-- ── the steps: 3 and 6 to 9, or their nodes ──
module _ (P : Protocol) (p steps : List ℕ) (prepared : Prepared p P) (bytes : Bytes steps) (short : length steps ≤ steps_limit) (r : Result ℕ Refusal) where
  pub steps_drawable :
      (nodes : List ℕ) {n : ℕ} → WhereGood P p steps nodes r → r ≡ Ok n → (xs : List Node) × Drawable p steps nodes n P xs
  steps_drawable nodes {n} good h =
      let g : GoodNodes P p steps 0 nodes n (length steps) = subst (WhereGood P p steps nodes) h good in (
        g.items,
        record {
          right = good_right P p steps nodes bytes prepared (omega (arith, short)) 0 n (length steps) g;
          bytes = good_bytes P steps bytes p nodes n g;
          under = steps_good P steps bytes p nodes n g;
        },
      )

  module _ {e : Refusal} (told : answered r ≡ counted (list_ruling P steps_item (files.steps P steps))) (h : r ≡ Err e) where
    abbrev a : ℕ
    a = e.number

    abbrev b : ℕ
    b = e.item

    stopped_is : steps_under P steps ≡ refused a b
    stopped_is = steps_stopped P steps a b (counted_refused (list_ruling P steps_item (files.steps P steps)) a b (ap answered (sym h) ∙ told))

    pub stopped_small : (a ≤ most_number) × (b ≤ most_nodes)
    stopped_small = steps_bounded P steps bytes prepared.body.within a b stopped_is

    pub steps_refused : (output : List ℕ) (w : Written) → written w ≡ refused a b → Judges (steps_under P steps) output output w
    steps_refused output w q = judges_refused encode_graph (steps_under P steps) output w a b stopped_is q

-- ── the files ──
module _ (protocol steps output : List ℕ) (w : Written) where
  -- 2, 3 and 4
  pub inside_refused :
      (n k : ℕ) → ((work : ℕ) → work_need ≤ work → draw_outcome protocol steps (length output) work ≡ refused n k)
      → written w ≡ refused n k → Promises (λ (work : ℕ). work_need ≤ work) (Inside protocol steps output output w)
  inside_refused n k h q work l =
      record { answer = q ∙ sym (h work l); left = output_kept protocol steps output work n k (h work l) }

  module _ (p : length protocol ≤ protocol_limit) (s : length steps ≤ steps_limit) (output' : List ℕ) where
    -- the steps, under the protocol that passes
    pub inside_judged :
        (q : Protocol) → protocol_ruling protocol ≡ passed q → Judges (steps_under q steps) output output' w
        → Promises (λ (work : ℕ). work_need ≤ work) (Inside protocol steps output output' w)
    unfolding draw_output
    inside_judged q fit j work l =
        let under = drawn_under protocol steps q fit in
        let o : draw_outcome protocol steps (length output) work ≡ and_then (steps_under q steps) (room_of (length output)) =
        sized protocol steps (length output) work l p s ∙ ap (λ (r : Ruling Graph). and_then r (room_of (length output))) under in
        record {
          answer = j.answer ∙ sym o;
          left = j.left ∙ sym (ap₂ (λ (x : Ruling ℕ) (y : Ruling Graph). output_after x (graph_bytes y) output) o under);
        }

    -- a protocol that was prepared passes
    pub inside_prepared :
        (prepared : List ℕ) (v : Result Counts Unfit) (c : Counts) (verdict : verdict_of v ≡ judged (protocols.protocol protocol)) (h : v ≡ Ok c)
        → WherePrepared protocol v prepared → ((q : Protocol) → Prepared prepared q → Judges (steps_under q steps) output output' w)
        → Promises (λ (work : ℕ). work_need ≤ work) (Inside protocol steps output output' w)
    inside_prepared prepared v c verdict h at j =
        let i = its protocol steps steps prepared v verdict h at in
        inside_judged i.its (ruled_sound protocol i.its (length protocol) i.reads (sym verdict ∙ ap verdict_of h)) (j i.its i.is)
