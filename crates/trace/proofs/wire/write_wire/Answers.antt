use Rattle.std.proofs.Common.{◌≡◌, ◌++◌, length, drop, Ok}
use Rattle.trace.specs.Trace.{write_answer, path_after}
use Rattle.trace.proofs.Answering.{after_search, part_size, wrote_answer, wrote_path}
use Rattle.trace.proofs.wire.write_wire.Goals as goal

pub write_back-requires : goal.write_back-requires
write_back-requires g c =
    part_size g.T.Tariff.rates (g.G.Ground.meaning c.args.area.now) c.args.connection c.args.labels.now c.in_ok-trace.trace c.in_ok-trace.ensures
    c.args.path.now c.in_ok-places.places c.in_ok-places.ensures.answer c.in_ok-check_room.ensures

pub returns : goal.returns
returns g c =
    let t = g.T.Tariff.rates in
    let m = g.G.Ground.meaning c.args.area.now in
    let ls = c.args.labels.now in
    let x = c.in_ok-trace.trace in
    let begun = c.in_ok-trace.ensures in
    let path = c.args.path.now in
    let n = c.in_ok-places.places in
    let counted = c.in_ok-places.ensures.answer in
    let room = c.in_ok-check_room.ensures in
    let a = wrote_answer t m c.args.connection ls x begun path n counted room in
    let b = wrote_path t m c.args.connection ls x begun path n counted room c.write_back.new.path c.write_back.ensures in
    record {
      answer = a;
      after = b;
      wire = after_search g.met.T.Tariff.laws m (g.G.Ground.sound c.args.area.now) c.args.connection ls
          (λ ps. (Ok n ≡ write_answer m (length ls) ps (length path)) × (c.write_back.new.path ++ drop n path ≡ path_after m (length ls) ps path)) (a, b);
    }
