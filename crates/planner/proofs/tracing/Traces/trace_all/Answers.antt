use Rattle.std.proofs.Common.{◌<◌, length, arith}
use Rattle.scan.specs.Chains.{labels_in}
use Rattle.planner.proofs.Handing.{no_offer, each_get, leg_room, row_end, row_legs}
use Rattle.planner.proofs.tracing.Traces.trace_all.Goals as goal

pub trace-end-requires : goal.trace-end-requires
trace-end-requires g c = record {
  place_in_bounds = each_get (λ o. o.label < length (labels_in c.args.self.now.labels.now)) c.args.offers.now c.requires.each c.loop-row.row no_offer c.loop-row-test.true;
  legs_fit = leg_room (labels_in c.args.self.now.labels.now) c.args.offers.now c.loop-row.row c.loop-row.end c.loop-row-test.true c.loop-row.invariant.0 (length c.loop-row.legs) (omega (arith, c.requires.legs_fit, c.loop-row.auto.legs));
}

pub loop-row-preserved : goal.loop-row-preserved
loop-row-preserved g c = (
  row_end (labels_in c.args.self.now.labels.now) c.args.offers.now c.loop-row.row c.loop-row.end c.loop-row-test.true c.loop-row.invariant.0 c.trace-end.result c.trace-end.ensures.end,
  row_legs (labels_in c.args.self.now.labels.now) c.args.offers.now c.loop-row.row c.loop-row.end c.loop-row-test.true c.loop-row.invariant.0 c.args.legs.now c.loop-row.legs c.trace-end.new.legs c.requires.legs_fit c.loop-row.invariant.1 c.trace-end.ensures.legs,
)
