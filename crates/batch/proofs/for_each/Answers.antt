-- `for_each`: a turn reads one file more and visits it.
-- The check leaves each of these goals open without its answer.
use Rattle.std.proofs.Common.{rules, of_calls, arith, refl, inl, inr, ◌≡◌, ◌∷◌, [], ◌++◌, Ok, Some, None, length, take, length-take-le}
use Rattle.std.specs.Fn.{CalledAt}
use Rattle.std.proofs.lemmas.Fn.{FoldsTo-push, called_at}
use Rattle.batch.specs.Input.{LengthGiven, FileGiven}
use Rattle.batch.proofs.Visits.{next-file, file-cut, too-long, one-more}
use Rattle.batch.proofs.for_each.Goals as goal

pub loop-init : goal.loop-init
loop-init g c = (c.requires, [], refl, refl)

pub returns-in-Ok-None-clause-visited : goal.returns-in-Ok-None-clause-visited
returns-in-Ok-None-clause-visited g c =
    let (_, files, _, each) = c.loop.invariant in
    let told : LengthGiven (g.R.Read.remaining c.loop.input) (g.R.Read.remaining c.try_next_length.new.input) None = search rules in
    record { files = files; left = g.R.Read.remaining c.loop.input; last = c.loop.visit; each = each; end = inl (inl told.0) }

pub returns-in-Ok-None-try_read_file-clause-visited : goal.returns-in-Ok-None-try_read_file-clause-visited
returns-in-Ok-None-try_read_file-clause-visited g c =
    let (_, files, _, each) = c.loop.invariant in
    let wanted = c.in-Ok-Some.wanted in
    let told : LengthGiven (g.R.Read.remaining c.loop.input) (g.R.Read.remaining c.try_next_length.new.input) (Some wanted) = search rules in
    let given : FileGiven wanted (g.R.Read.remaining c.try_next_length.new.input) (g.R.Read.remaining c.try_read_file.new.input) c.loop.buf c.try_read_file.new.buf None = search rules in
    let room : length c.loop.buf ≡ 100000 = search rules in
    record {
      files = files;
      left = g.R.Read.remaining c.loop.input;
      last = c.loop.visit;
      each = each;
      end = inl (too-long _ _ _ wanted c.loop.buf c.try_read_file.new.buf room told given);
    }

pub loop-preserved : goal.loop-preserved
loop-preserved g c =
    let (_, files, turns, each) = c.loop.invariant in
    let wanted = c.in-Ok-Some.wanted in
    let count = c.in-Ok-Some-try_read_file.count in
    let told : LengthGiven (g.R.Read.remaining c.loop.input) (g.R.Read.remaining c.try_next_length.new.input) (Some wanted) = search rules in
    let given : FileGiven wanted (g.R.Read.remaining c.try_next_length.new.input) (g.R.Read.remaining c.try_read_file.new.input) c.loop.buf c.try_read_file.new.buf (Some count) = search rules in
    let visited : c.visit.result ≡ Ok (tt {0}) = search rules in
    let called : CalledAt g.F.FnMut c.loop.visit (take count c.try_read_file.new.buf) (Ok (tt {0})) c.visit.new.self = called_at g.F.FnMut c.visit.ensures visited in (
      search of_calls,
      files ++ (take count c.try_read_file.new.buf ∷ []),
      one-more files _ c.loop.counter turns,
      FoldsTo-push _ _ files _ _ _ each (next-file _ _ _ wanted count c.loop.buf c.try_read_file.new.buf told given, called),
    )

pub returns-clause-visited : goal.returns-clause-visited
returns-clause-visited g c =
    let (_, files, turns, each) = c.loop.invariant in
    record { files = files; left = g.R.Read.remaining c.loop.input; last = c.loop.visit; each = each; end = inr (omega (arith, turns, c.loop-test.false)) }

-- a length could not be read: no file more is visited
pub returns-in-Err-clause-unread : goal.returns-in-Err-clause-unread
returns-in-Err-clause-unread g c =
    let (_, files, _, each) = c.loop.invariant in
    record { files = files; left = g.R.Read.remaining c.loop.input; last = c.loop.visit; each = each; end = inl c.in-Err.ensures.failed }

-- a file was cut: what there is of it was visited
pub returns-in-Err-try_read_file-clause-unread : goal.returns-in-Err-try_read_file-clause-unread
returns-in-Err-try_read_file-clause-unread g c =
    let (_, files, _, each) = c.loop.invariant in
    let wanted = c.in-Ok-Some.wanted in
    let count = c.in-Err-try_read_file.cut.count in
    let told : LengthGiven (g.R.Read.remaining c.loop.input) (g.R.Read.remaining c.try_next_length.new.input) (Some wanted) = search rules in
    let (_, most, front) = c.in-Err-try_read_file.ensures.failed in
    let visited : c.visit-in-Err-try_read_file.result ≡ Ok (tt {0}) = search rules in
    let called : CalledAt g.F.FnMut c.loop.visit (take count c.try_read_file.new.buf) (Ok (tt {0})) c.visit-in-Err-try_read_file.new.self = called_at g.F.FnMut c.visit-in-Err-try_read_file.ensures visited in
    record {
      files = files;
      left = g.R.Read.remaining c.loop.input;
      last = c.loop.visit;
      each = each;
      end = inr (record {
        file = take count c.try_read_file.new.buf;
        last = c.visit-in-Err-try_read_file.new.self;
        cut = file-cut _ _ _ wanted count c.try_read_file.new.buf told most front;
        long = length-take-le count c.try_read_file.new.buf front.within;
        visited = called;
      });
    }
