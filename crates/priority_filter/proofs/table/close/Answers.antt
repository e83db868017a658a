use Rattle.std.proofs.Common.{arith}
use Rattle.priority_filter.specs.Table.{Above}
use Rattle.priority_filter.proofs.Chains.{Leads-within, JoinsAt, closed_more, sound_more, keeps_more}
use Rattle.priority_filter.proofs.TableLaws.{joins_at_station, above_within}
use Rattle.priority_filter.proofs.table.close.Goals as goal

pub loop-station-preserved : goal.loop-station-preserved
loop-station-preserved c =
    let old = c.loop-station.rows in
    let new = c.close_through.new.rows in
    let k = c.loop-station.station in
    let joins : JoinsAt (Above old) (Above new) k = joins_at_station old new k c.close_through.auto.rows c.close_through.ensures in
    record {
      sound = sound_more (Above old) (Above new) k joins (Above c.args.rows.now) c.loop-station.invariant.sound;
      keeps = λ a b step. keeps_more (Above old) (Above new) k joins a b (c.loop-station.invariant.keeps a b step);
      closed = closed_more (Above old) (Above new) k joins c.loop-station.invariant.closed;
    }

pub returns : goal.returns
returns c =
    let rows = c.loop-station.rows in
    λ a b. (
      c.loop-station.invariant.sound a b,
      Leads-within (Above c.args.rows.now) (Above rows) c.loop-station.invariant.keeps
          (λ s x y up on. c.loop-station.invariant.closed s (let within = above_within rows s y on in omega arith) x y up on) a b,
    )
