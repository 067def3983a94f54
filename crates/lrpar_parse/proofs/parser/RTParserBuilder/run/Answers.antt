use Rattle.std.proofs.Common.{◌≡◌, ap}
use Rattle.lrpar_parse.proofs.parser.RTParserBuilder.run.Goals as goal

pub over-requires : goal.over-requires
over-requires g c =
    let checked : c.self.inside.checked.now ≡ c.args.self.now.checked = ap (λ v. v.checked) c.self.view_is in
    record {
      can = rw (c.new.ensures.build, c.new.ensures.checked, checked) c.requires.can;
      valid = rw (c.new.ensures.checked, checked) c.requires.valid;
      shifts = c.shift_count.ensures.some;
    }

pub returns : goal.returns
returns g c =
    let checked : c.self.inside.checked.now ≡ c.args.self.now.checked = ap (λ v. v.checked) c.self.view_is in
    let recoverer : c.self.inside.recoverer ≡ c.args.self.now.recoverer = ap (λ v. v.recoverer) c.self.view_is in
    record { ran = rw (c.new.ensures.checked, c.new.ensures.build, checked, recoverer, c.shift_count.ensures.count) at c.over.ensures }
