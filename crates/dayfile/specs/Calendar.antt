-- The Gregorian calendar, and what a heading may hold.
use Rattle.std.specs.Prelude.{ℕ, ◌%◌, Bool, cond, not, ◌&&◌, ◌||◌, ◌==◌, nat_le}

abbrev pub leap_year : ℕ → Bool
leap_year year = year % 4 == 0 && (not (year % 100 == 0) || year % 400 == 0)

abbrev pub days_in : ℕ → ℕ → ℕ
days_in year month =
    cond (month == 2) (cond (leap_year year) 29 28)
    (cond (month == 4 || (month == 6 || (month == 9 || month == 11))) 30 31)

-- low and high are both within
abbrev pub within : ℕ → ℕ → ℕ → Bool
within low high x = nat_le low x && nat_le x high

-- a real date from 2016 to 2099; 23, 24 or 25 hours; 1 to 32 accounts, 1 to 16 nodes, at most 8 interconnections
abbrev pub real_heading : ℕ → ℕ → ℕ → ℕ → ℕ → ℕ → ℕ → Bool
real_heading year month day hours accounts nodes interconnections =
    within 2016 2099 year && (within 1 12 month && (within 1 (days_in year month) day
    && (within 23 25 hours && (within 1 32 accounts && (within 1 16 nodes && nat_le interconnections 8)))))
