-- How many bytes each field has.
use Prim.Native.Nat.{ℕ, ◌+◌, ◌*◌}
use mathlib.Core.Path.{◌≡◌}
use mathlib.Core.List.{List, ◌++◌}
use native.Mathlib.Omega.{arith}
use lib.ListN.{length, length-append}
use Rattle.model.specs.Fields.{number_of, bytes_all}
use Rattle.model.specs.Layout.{amounts_in_order, amounts, shocks_in_order, shocks, people, flow}
use Rattle.model.specs.Numbers.{bytes_of}
use Rattle.model.specs.declared.case.Amounts.{Amounts}
use Rattle.model.specs.declared.case.Shocks.{Shocks}
use Rattle.model.specs.declared.case.People.{People}
use Rattle.theory.proofs.acceptance.Encoding.{length-bytes}
use Rattle.fields.proofs.Bytes.{length_run}

pub amounts-length : (a : Amounts) → length (amounts.bytes a) ≡ 64
amounts-length a = length_run (number_of 8 0 100000000000) (length-bytes 8) (amounts_in_order a)

pub shocks-length : (x : Shocks) → length (shocks.bytes (shocks_in_order x)) ≡ 24
shocks-length x =
    let ten = bytes_all (number_of 2 0 1000) (shocks_in_order x).0 in
    let spread = bytes_of 2 x.spread in
    let duration = bytes_of 2 x.duration in
    omega (
      arith,
      length-append ten (spread ++ duration),
      length-append spread duration,
      length_run (number_of 2 0 1000) (length-bytes 2) (shocks_in_order x).0,
      length-bytes 2 x.spread,
      length-bytes 2 x.duration,
    )

pub people-length : (p : People) → length (people.bytes p) ≡ 8
people-length p =
    let heads = bytes_of 4 p.heads in
    let pension = bytes_of 2 p.pension_age in
    let mean = bytes_of 2 p.mean_age in
    omega (
      arith,
      length-append heads (pension ++ mean),
      length-append pension mean,
      length-bytes 4 p.heads,
      length-bytes 2 p.pension_age,
      length-bytes 2 p.mean_age,
    )

pub flows-length : (flows : List ℕ) → length (bytes_of 1 (length flows) ++ bytes_all flow flows) ≡ 1 + 4 * length flows
flows-length flows =
    omega (
      arith,
      length-append (bytes_of 1 (length flows)) (bytes_all flow flows),
      length-bytes 1 (length flows),
      length_run flow (length-bytes 4) flows,
    )

pub ruleset lengths = (length-append, length-bytes, amounts-length, shocks-length, people-length, flows-length)
