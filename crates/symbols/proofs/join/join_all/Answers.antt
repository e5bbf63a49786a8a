-- `join::join_all` meets its contract: what stands in the result and what is left of the list make the whole, and the tables hold what the records hold.
use Rattle.symbols.proofs.join.ResultLaws.{joins-next, joins-short, joins-end, joins_long, joins-small, joins-fits}
use Rattle.symbols.proofs.join.ResultLaws.{next-filled, next_known, same_known}
use Rattle.symbols.proofs.join.join_all.Goals as goal

pub join_symbol-then-requires-clause-has_head : goal.join_symbol-then-requires-clause-has_head
join_symbol-then-requires-clause-has_head c = joins_long c.loop-field.invariant.joins c.in-Some.ensures _ c.payload-payload.ensures

pub join_symbol-then-requires-clause-length_fits : goal.join_symbol-then-requires-clause-length_fits
join_symbol-then-requires-clause-length_fits c = joins-fits c.loop-field.invariant.joins c.in-Some.ensures _ c.payload-payload.ensures

pub join_symbol-then-requires-clause-end_fits : goal.join_symbol-then-requires-clause-end_fits
join_symbol-then-requires-clause-end_fits c = joins-small c.loop-field.invariant.joins c.in-Some.ensures _ c.payload-payload.ensures

pub returns-then-res-then : goal.returns-then-res-then
returns-then-res-then c =
    let laid = rw c.payload-payload.ensures at c.join_symbol-then.ensures in joins-short c.loop-field.invariant.joins c.in-Some.ensures laid c.if-res-then.true

pub symbol_range-requires-clause-has_head : goal.symbol_range-requires-clause-has_head
symbol_range-requires-clause-has_head c = joins_long c.loop-field.invariant.joins c.in-Some.ensures _ c.payload-payload.ensures

pub symbol_range-requires-clause-end_fits : goal.symbol_range-requires-clause-end_fits
symbol_range-requires-clause-end_fits c = joins-small c.loop-field.invariant.joins c.in-Some.ensures _ c.payload-payload.ensures

pub remember-tables-requires-clause-nonempty : goal.remember-tables-requires-clause-nonempty
remember-tables-requires-clause-nonempty c =
    let laid = rw c.payload-payload.ensures at c.join_symbol-then.ensures in
    let is = rw c.payload-payload.ensures at c.symbol_range.ensures in
    next-filled c.loop-field.invariant.joins c.in-Some.ensures laid _ c.if-res-then.false c.if-at-then.true is

pub loop-field-preserved-then-at-then : goal.loop-field-preserved-then-at-then
loop-field-preserved-then-at-then c =
    let I = c.loop-field.invariant in
    let laid = rw c.payload-payload.ensures at c.join_symbol-then.ensures in
    let is = rw c.payload-payload.ensures at c.symbol_range.ensures in
    record {
      joins = joins-next I.joins c.in-Some.ensures laid c.if-res-then.false;
      known = next_known I.joins c.in-Some.ensures laid _ c.if-res-then.false c.if-at-then.true is I.known c.remember-tables.ensures;
    }

pub loop-field-preserved : goal.loop-field-preserved
loop-field-preserved c =
    let I = c.loop-field.invariant in
    let laid = rw c.payload-payload.ensures at c.join_symbol-then.ensures in
    record {
      joins = joins-next I.joins c.in-Some.ensures laid c.if-res-then.false;
      known = same_known I.joins c.in-Some.ensures laid c.if-res-then.false c.if-at-then.false I.known;
    }

pub returns : goal.returns
returns c = joins-end c.loop-field.invariant.joins c.in_default.ensures
