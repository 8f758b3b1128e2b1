-- The numbers that the method counts in, under one name each (METHOD, Units).
use Rattle.std.specs.Prelude.{ℕ, ◌^◌}

-- "A file without this field has a UFR of 4,200."
abbrev pub default_ufr : ℕ
default_ufr = 4200

-- "A file without this field has 1,000.": the correlation between the equity classes, in thousandths
abbrev pub default_equity_correlation : ℕ
default_equity_correlation = 1000

-- "A rate step is 0.00001.": the number of steps in 1
abbrev pub steps_per_one : ℕ
steps_per_one = 100000

-- "Factors count 10^-12": the number of units in 1
abbrev pub unit : ℕ
unit = 10 ^ 12

-- "the adjusted growth is G(t) up to 20": the last term whose growth is the market's own
abbrev pub last_unweighed_term : ℕ
last_unweighed_term = 20

-- "60 zero rates, terms 1 to 60"; "for 21 to 60": the last term that a file has rates of, and the last whose growth is weighed
abbrev pub last_market_term : ℕ
last_market_term = 60

-- the last term: growths of 61 to 120 are the UFR's alone, and every promise of factors and zero rates is of the terms 1 to 120
abbrev pub last_term : ℕ
last_term = 120
