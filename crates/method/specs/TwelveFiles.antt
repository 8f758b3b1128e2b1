-- The files of the twelve hand-worked cases, as bytes, and the listing of the first. Assumes nothing.
use Rattle.std.specs.Prelude.{ℕ, zero, suc, ◌*◌, List, [], ◌∷◌, ◌++◌, replicate}
use Rattle.method.specs.Listing.{ascii}

-- a rate, as its two bytes, at n terms
abbrev pub rates : ℕ → ℕ → ℕ → List ℕ
rates zero a b = []
rates (suc n) a b = a ∷ b ∷ rates n a b

-- n zeros
abbrev pub zeros : ℕ → List ℕ
zeros n = replicate n 0

-- The fields of file C1, as bytes. "one day, all rates 0"; "Flat means one day with that rate at every term".
abbrev pub flat : ℕ → ℕ → List ℕ
flat a b = 1 ∷ rates 60 a b

-- "one flow 1,000,000"
abbrev pub one_flow : List ℕ
one_flow = 1 ∷ 0x00 ∷ 0x0f ∷ 0x42 ∷ 0x40 ∷ []

-- "cash 1,100,000, other amounts 0": cash is the seventh, here by its last three bytes
abbrev pub cash_only : ℕ → ℕ → ℕ → List ℕ
cash_only a b c = zeros (6 * 8) ++ (0 ∷ 0 ∷ 0 ∷ 0 ∷ 0 ∷ a ∷ b ∷ c ∷ []) ++ zeros 8

abbrev pub cash : List ℕ
cash = cash_only 0x10 0xc8 0xe0

-- "shocks 0"
abbrev pub no_shocks : List ℕ
no_shocks = zeros (12 * 2)

-- "H 100, ages 780 and 460"
abbrev pub aged : ℕ → ℕ → ℕ → ℕ → List ℕ
aged a b c d = 0 ∷ 0 ∷ 0 ∷ 100 ∷ a ∷ b ∷ c ∷ d ∷ []

abbrev pub people : List ℕ
people = aged 0x03 0x0c 0x01 0xcc

-- the map 0x0076: a file with the fields that C1 has
abbrev pub like_c1 : List ℕ → List ℕ → List ℕ → List ℕ → List ℕ → List ℕ
like_c1 days flows amounts shocks people = 0x00 ∷ 0x76 ∷ days ++ flows ++ amounts ++ shocks ++ people

abbrev pub file_c1 : List ℕ
file_c1 = like_c1 (flat 0 0) one_flow cash no_shocks people

-- C1 with other days: "a field that a case doesn't name is as in C1"
abbrev pub with_days : List ℕ → List ℕ
with_days days = like_c1 days one_flow cash no_shocks people

-- C1 with other cash; C2 has 1,099,999
abbrev pub with_cash : ℕ → ℕ → ℕ → List ℕ
with_cash a b c = like_c1 (flat 0 0) one_flow (cash_only a b c) no_shocks people

abbrev pub file_c2 : List ℕ
file_c2 = with_cash 0x10 0xc8 0xdf

-- "days at 100 and 101"
abbrev pub file_c5 : List ℕ
file_c5 = with_days (2 ∷ rates 60 0 100 ++ rates 60 0 101)

-- "one day, rate 0 then 6,000 for all later terms", and 6,001
abbrev pub file_c8 : ℕ → ℕ → List ℕ
file_c8 a b = with_days (1 ∷ 0 ∷ 0 ∷ rates 59 a b)

-- "S1 300, S2 400 euros, correlation 500, others 0": a bond flow of 30,300 at term 1 loses 300 on a curve that is 1 % up, mature equity
-- of 1,000 loses 400 thousandths, and a pension flow of 0 gives no S6
abbrev pub file_c9 : List ℕ
file_c9 =
    0x00 ∷ 0x7e ∷ flat 0 0
    ++ (1 ∷ zeros 4)
    ++ (1 ∷ 0x00 ∷ 0x00 ∷ 0x76 ∷ 0x5c ∷ [])
    ++ (zeros 6 ++ (0x03 ∷ 0xe8 ∷ []) ++ zeros (7 * 8))
    ++ (0x03 ∷ 0xe8 ∷ 0x00 ∷ 0x00 ∷ 0x01 ∷ 0x90 ∷ zeros (6 * 2) ++ (0x01 ∷ 0xf4 ∷ zeros (2 * 2)))
    ++ people

-- "pension age 780, mean 540"
abbrev pub file_c10 : List ℕ
file_c10 = like_c1 (flat 0 0) one_flow cash no_shocks (aged 0x03 0x0c 0x02 0x1c)

-- "mean age above pension age": 460 and 780
abbrev pub file_c11 : List ℕ
file_c11 = like_c1 (flat 0 0) one_flow cash no_shocks (aged 0x01 0xcc 0x03 0x0c)

-- "Its 224 bytes give"
abbrev pub listing_c1 : List ℕ
listing_c1 =
    ascii "L 100000000 100000000\n"
    ++ ascii "B 0 0\n"
    ++ ascii "A 110000000 110000000\n"
    ++ ascii "S1 0 0\n"
    ++ ascii "S2 0 0\n"
    ++ ascii "S3 0 0\n"
    ++ ascii "S4 0 0\n"
    ++ ascii "S5 0 0\n"
    ++ ascii "S6 10000000 10000000\n"
    ++ ascii "S 10000000 10000000\n"
    ++ ascii "V VRIJ VERMOGEN\n"
