use Rattle.std.proofs.Common.{Ok, refl, ◌∙◌}
use Rattle.journeys.specs.Labels.{rides_on}
use Rattle.scan.proofs.Stages.{riding_from, alighting_run, carried_then, changed_room}
use Rattle.scan.proofs.ride.Ride.ride.Goals as goal

pub returns-clause-run : goal.returns-clause-run
returns-clause-run g c =
    let f = g.F.Fare.model c.args.fare.now in
    let t = c.args.turn.now in
    riding_from f t.round t.place t.hop c.args.self.now c.keep.new.self c.keep.ensures.run c.keep.ensures.carried c.board_all.new.aboard (Ok tt) c.in_ok-board_all.ensures.run c.board_all.ensures.kept
    ∙ alighting_run f t.round t.place t.hop c.args.self.now c.keep.new.self c.keep.ensures.run c.keep.ensures.carried c.board_all.new.aboard c.ride_all.new.aboard c.alight_all.new.labels c.alight_all.result c.ride_all.ensures.used c.ride_all.ensures.places _ c.as_slice.ensures c.alight_all.ensures.run

pub returns-clause-carried : goal.returns-clause-carried
returns-clause-carried g c =
    carried_then _ c.keep.new.self _ c.keep.ensures.carried (record {
      labels = c.alight_all.ensures.extended;
      same = c.ride_all.ensures.same ∙ c.board_all.ensures.kept.same;
      room = changed_room (rides_on (g.F.Fare.model c.args.fare.now) c.args.turn.now.hop) c.board_all.new.aboard c.ride_all.new.aboard c.ride_all.ensures.used c.ride_all.ensures.places ∙ c.board_all.ensures.kept.room;
      same_labels = refl;
      same_aboard = refl;
    })
