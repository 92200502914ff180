-- The three lengths in order, then the files: the clauses of the sizes' rows.
use mathlib.Core.Path.{sym, ◌∙◌}
use Rattle.checker.specs.Check.Cases.{protocol_over, property_over, graph_over, sized}
use Rattle.checker.specs.Check.{ruled_refused}
use Rattle.checker.proofs.checking.check_files.Goals as goal

pub returns-then-protocol-gt-PROTOCOL_LIMIT : goal.returns-then-protocol-gt-PROTOCOL_LIMIT
returns-then-protocol-gt-PROTOCOL_LIMIT c =
    λ work l. (ruled_refused c.refuse.ensures) ∙ sym (protocol_over c.args.protocol.now c.args.property.now c.args.graph.now work l
    c.if-protocol-gt-PROTOCOL_LIMIT.true)

pub returns-then-property-gt-PROPERTY_LIMIT : goal.returns-then-property-gt-PROPERTY_LIMIT
returns-then-property-gt-PROPERTY_LIMIT c =
    λ work l. (ruled_refused c.refuse-then-property-gt-PROPERTY_LIMIT.ensures) ∙ sym (property_over c.args.protocol.now c.args.property.now c.args.graph.now work l
    c.if-protocol-gt-PROTOCOL_LIMIT.false c.if-property-gt-PROPERTY_LIMIT.true)

pub returns-then-graph-gt-GRAPH_LIMIT : goal.returns-then-graph-gt-GRAPH_LIMIT
returns-then-graph-gt-GRAPH_LIMIT c =
    λ work l. (ruled_refused c.refuse-then-graph-gt-GRAPH_LIMIT.ensures) ∙ sym (graph_over c.args.protocol.now c.args.property.now c.args.graph.now work l c.if-protocol-gt-PROTOCOL_LIMIT.false
    c.if-property-gt-PROPERTY_LIMIT.false c.if-graph-gt-GRAPH_LIMIT.true)

pub returns : goal.returns
returns c =
    λ work l. c.check_protocol.ensures ∙ sym (sized c.args.protocol.now c.args.property.now c.args.graph.now work l
    c.if-protocol-gt-PROTOCOL_LIMIT.false c.if-property-gt-PROPERTY_LIMIT.false c.if-graph-gt-GRAPH_LIMIT.false)
