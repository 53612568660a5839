use Rattle.std.proofs.Common.{rules}
use mathlib.Core.Path.{ap, ◌∙◌}
use Rattle.guards.specs.OnNetwork.{on_network}
use Rattle.table_guards.specs.Checks.{chosen_mode}
use Rattle.forwarding.specs.Calls.{OnTables, on_tables}
use Rattle.forwarding.proofs.Order.{Found, found, forward_stops, forward_measured, contents_then, table_given}
use Rattle.forwarding.proofs.Answers.{forward_refused, forward_done}
use Rattle.forwarding.proofs.forward.forward.Goals as goal

pub check_contents-requires : goal.check_contents-requires
check_contents-requires c =
    let N : OnTables = on_tables (on_network c.network.inside.language c.network.inside.n c.network.inside.arcs.now) c.tables.inside.m c.tables.inside.mode c.tables.inside.routes.now c.tables.inside.mapping.now in
    let there : Found N c.args.f.now c.and-sizes.result c.and.result =
    found N c.args.f.now c.mode_for-chosen.ensures c.check_nodes.ensures c.check_destinations.ensures c.check_mode.ensures c.and-others.ensures c.and-sizes.ensures c.check_length-arcs.ensures c.check_length.ensures c.and-matrices.ensures
    c.check_table_length-mapping_length.ensures c.check_table_length-table_length.ensures c.and-table_lengths.ensures c.and.ensures in
    forward_measured N c.args.f.now there c.in_ok-p.p c.in_ok-p.ensures

pub forward_table-requires : goal.forward_table-requires
forward_table-requires c =
    let N : OnTables = on_tables (on_network c.network.inside.language c.network.inside.n c.network.inside.arcs.now) c.tables.inside.m c.tables.inside.mode c.tables.inside.routes.now c.tables.inside.mapping.now in
    let there : Found N c.args.f.now c.and-sizes.result c.and.result =
    found N c.args.f.now c.mode_for-chosen.ensures c.check_nodes.ensures c.check_destinations.ensures c.check_mode.ensures c.and-others.ensures c.and-sizes.ensures c.check_length-arcs.ensures c.check_length.ensures c.and-matrices.ensures
    c.check_table_length-mapping_length.ensures c.check_table_length-table_length.ensures c.and-table_lengths.ensures c.and.ensures in
    table_given N c.args.f.now there c.in_ok-p.p c.in_ok-p.ensures (c.chosen_mode-meant.ensures ∙ ap chosen_mode c.mode_for-chosen.ensures) c.check_contents.ensures c.in_ok-check_contents.was

pub returns-in_err-p : goal.returns-in_err-p
returns-in_err-p c =
    let N : OnTables = on_tables (on_network c.network.inside.language c.network.inside.n c.network.inside.arcs.now) c.tables.inside.m c.tables.inside.mode c.tables.inside.routes.now c.tables.inside.mapping.now in
    let there : Found N c.args.f.now c.and-sizes.result c.and.result =
    found N c.args.f.now c.mode_for-chosen.ensures c.check_nodes.ensures c.check_destinations.ensures c.check_mode.ensures c.and-others.ensures c.and-sizes.ensures c.check_length-arcs.ensures c.check_length.ensures c.and-matrices.ensures
    c.check_table_length-mapping_length.ensures c.check_table_length-table_length.ensures c.and-table_lengths.ensures c.and.ensures in
    let whole = forward_refused N c.args.f.now _ (forward_stops N c.args.f.now there c.in_err-p.ensures) in
    rw (← c.tables.view_is, ← c.network.view_is) (search rules)

pub returns-in_err-check_contents : goal.returns-in_err-check_contents
returns-in_err-check_contents c =
    let N : OnTables = on_tables (on_network c.network.inside.language c.network.inside.n c.network.inside.arcs.now) c.tables.inside.m c.tables.inside.mode c.tables.inside.routes.now c.tables.inside.mapping.now in
    let there : Found N c.args.f.now c.and-sizes.result c.and.result =
    found N c.args.f.now c.mode_for-chosen.ensures c.check_nodes.ensures c.check_destinations.ensures c.check_mode.ensures c.and-others.ensures c.and-sizes.ensures c.check_length-arcs.ensures c.check_length.ensures c.and-matrices.ensures
    c.check_table_length-mapping_length.ensures c.check_table_length-table_length.ensures c.and-table_lengths.ensures c.and.ensures in
    let whole = forward_refused N c.args.f.now _ (contents_then N c.args.f.now there c.in_ok-p.p c.in_ok-p.ensures (c.chosen_mode-meant.ensures ∙ ap chosen_mode c.mode_for-chosen.ensures) c.check_contents.ensures c.in_err-check_contents.was) in
    rw (← c.tables.view_is, ← c.network.view_is) (search rules)

pub returns : goal.returns
returns c =
    let N : OnTables = on_tables (on_network c.network.inside.language c.network.inside.n c.network.inside.arcs.now) c.tables.inside.m c.tables.inside.mode c.tables.inside.routes.now c.tables.inside.mapping.now in
    let there : Found N c.args.f.now c.and-sizes.result c.and.result =
    found N c.args.f.now c.mode_for-chosen.ensures c.check_nodes.ensures c.check_destinations.ensures c.check_mode.ensures c.and-others.ensures c.and-sizes.ensures c.check_length-arcs.ensures c.check_length.ensures c.and-matrices.ensures
    c.check_table_length-mapping_length.ensures c.check_table_length-table_length.ensures c.and-table_lengths.ensures c.and.ensures in
    let whole = forward_done N c.args.f.now there c.in_ok-p.p c.in_ok-p.ensures (c.chosen_mode-meant.ensures ∙ ap chosen_mode c.mode_for-chosen.ensures) c.check_contents.ensures c.in_ok-check_contents.was _ c.forward_table.ensures in
    rw (← c.tables.view_is, ← c.network.view_is) (record { answer = whole.0; f_after = whole.1 })
