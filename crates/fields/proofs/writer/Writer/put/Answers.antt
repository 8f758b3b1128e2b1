-- `put`: the text in the place of a part of the buffer is a run of stores. The check leaves this goal open without its answer.
use Rattle.std.proofs.Common.{◌∙◌, ap, length, refl}
use Rattle.std.proofs.Math.Seq.{length-sets}
use Rattle.fields.proofs.Written.{copied}
use Rattle.fields.proofs.writer.Writer.put.Goals as goal

pub returns : goal.returns
returns c =
    let a = c.args.self.now in
    let text = c.args.bytes.now in
    let held = copied a.out.now text a.at c.copy_from_slice.ensures.after c.requires in
    record { same = refl; long = ap length held ∙ length-sets a.out.now a.at text; place = refl; held = held }
