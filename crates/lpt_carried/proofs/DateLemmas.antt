-- The kit's dates are those of the definitions.
use Rattle.std.proofs.Common.{◌≡◌, ◌∙◌, ap, subst, sym, refl, ℕ, ◌+◌, ◌-◌, ◌<◌, ◌≤◌, [], ◌∷◌, ◌++◌, ℤ, pos, negsuc, true, Some, ◌+ℤ◌, ◌-ℤ◌, arith}
use Rattle.std.proofs.lemmas.Bool.Decides.{nat_tests}
use Rattle.std.proofs.lemmas.Int.{by_lt_z}
use Rattle.jiff_core.specs.declared.civil.date.Date.{Date}
use Rattle.jiff_core.specs.Calendar.{day_count, days_in_month, days_from_civil, days_in_year, IsCivilDate}
use Rattle.jiff_core.specs.Date.{epoch_day}
use Rattle.jiff_core.proofs.CalendarLemmas.{day_count-day, day_count-day_of_year, day_count-later_year, day_count-lt_year, day_count-next_month, day_count-next_year, day_of_year_bound, days_from_civil-day_count}
use Rattle.jiff_core.proofs.DateLemmas.{civil}
use Rattle.jiff_core.proofs.MarchLemmas.{day_count-early}
use Rattle.jiff_core.proofs.SignedLemmas.{signed_arith}
use Rattle.jiff_fmt.specs.Text as kit
use Rattle.jiff_fmt.specs.Text.{pad2}
use Rattle.lpt_carried.specs.Times.{date_in_year, date_of, date_text, day_number, is_day, month_at, year_at}
use Rattle.lpt_carried.proofs.StretchLemmas.{found, Follow}

day_count-1900 : day_count (pos 1900) 1 1 ≡ 4_346_386
day_count-1900 =
    day_count-early (pos 1900) 11899 1 1 refl (omega arith) (omega arith) (omega arith)

module _ (y m d : ℕ) (h : IsCivilDate (pos y) m d) where
  -- the day's place in its year
  in_year : (day_count (pos y) 1 1 ≤ day_count (pos y) m d)
      × (day_count (pos y) m d < day_count (pos y) 1 1 + days_in_year (pos y))
  in_year =
      let whole = day_count-day_of_year (pos y) m d h.2.0 in
      let bound = day_of_year_bound (pos y) m d h in
      (omega (arith, whole, h.2.0), omega (arith, whole, bound, h.2.0))

  year_is : (day : ℕ)
      → 1900 ≤ y
      → y ≤ 9999
      → day_count (pos y) m d ≡ day_count (pos 1900) 1 1 + day
      → year_at day ≡ (y, day_count (pos y) m d - day_count (pos y) 1 1)
  year_is day low high is =
      let start : ℕ → ℕ = λ x. day_count (pos x) 1 1 in
      let follow : Follow start (λ x. days_in_year (pos x)) 1900 =
      λ x g. day_count-next_year (pos x) (pos (x + 1)) (omega (arith, signed_arith))
      (omega (arith, signed_arith)) in
      found start (λ x. days_in_year (pos x)) 8099 1900 day y (day_count (pos y) m d) follow is low
      (omega arith) in_year.0 in_year.1

  month_is : month_at y (day_count (pos y) m d - day_count (pos y) 1 1) ≡ (m, d - 1)
  month_is =
      let start : ℕ → ℕ = λ x. day_count (pos y) x 1 in
      let follow : Follow start (days_in_month (pos y)) 1 =
      λ x g. day_count-next_month (pos y) x g in
      let day = day_count-day (pos y) m d 1 h.2.0 (omega arith) in
      let at = day_count (pos y) m d in
      let place = at - day_count (pos y) 1 1 in
      let left : at - start m ≡ d - 1 = omega (arith, day) in
      found start (days_in_month (pos y)) 11 1 place m at follow
      (omega (arith, in_year.0)) h.1.0 (omega (arith, h.1.1)) (omega (arith, day, h.2.0))
      (omega (arith, day, h.2.0, h.2.1))
      ∙ (λ x. (m, left x))

  parts_are : (day : ℕ)
      → 1900 ≤ y
      → y ≤ 9999
      → day_count (pos y) m d ≡ day_count (pos 1900) 1 1 + day
      → date_of y m d ≡ date_text day
  parts_are day low high is =
      let back : d - 1 + 1 ≡ d = omega (arith, h.2.0) in
      sym (ap (λ p. date_in_year p.0 p.1) (year_is day low high is)
      ∙ ap (λ p. date_of y p.0 (p.1 + 1)) month_is
      ∙ ap (date_of y m) back)

-- the kit's date of a day behind 1 January 1900
date_is : (z : ℤ) (m d day : ℕ)
    → IsCivilDate z m d
    → day_count z m d ≡ day_count (pos 1900) 1 1 + day
    → kit.year_text z ++ 45 ∷ [] ++ pad2 m ++ 45 ∷ [] ++ pad2 d ≡ date_text day
date_is (pos y) m d day h is =
    by_lt_z (pos y) (pos 1900)
    (λ lt.
    let before = day_count-lt_year (pos y) m d (pos 1900) 1 1 h (omega arith) lt in
    absurd (omega (arith, is, before)))
    (λ ge. parts_are y m d h day (omega (arith, signed_arith, ge))
    (omega (arith, signed_arith, h.0))
    is)
date_is (negsuc n) m d day h is =
    absurd (omega (
      arith,
      is,
      day_count-lt_year (negsuc n) m d (pos 1900) 1 1 h (omega arith) (omega (arith, signed_arith)),
    ))

-- the same by the kit's number of it
pub day_text : (date : Date) (day : ℕ)
    → epoch_day date ≡ pos day -ℤ pos 25567
    → kit.date_text date ≡ date_text day
day_text date day is =
    let count = days_from_civil-day_count date.year date.month date.day in
    let at : day_count date.year date.month date.day ≡ day_count (pos 1900) 1 1 + day =
    omega (arith, signed_arith, count, is, day_count-1900) in
    date_is date.year date.month date.day day (civil date) at

-- a day of the calendar from the year 1900 on
day_is : (y m d : ℕ) → 1900 ≤ y → y ≤ 9999 → IsCivilDate (pos y) m d → is_day y m d ≡ true
day_is y m d low high h = let month = h.1 in let day = h.2 in grind (arith, nat_tests)

-- the kit's number of it
pub number_is : (date : Date) (y m d n : ℕ)
    → date.year ≡ pos y
    → date.month ≡ m
    → date.day ≡ d
    → 1900 ≤ y
    → y ≤ 9999
    → epoch_day date +ℤ pos 4_371_587 ≡ pos n
    → (4_346_020 ≤ n) × (Some (n - 4_346_020) ≡ day_number y m d)
number_is date y m d n year month day low high is =
    let h : IsCivilDate (pos y) m d =
    subst (λ k. IsCivilDate (pos y) m k) day (subst (λ k. IsCivilDate (pos y) k date.day) month
    (subst (λ z. IsCivilDate z date.month date.day) year (civil date))) in
    let count : epoch_day date ≡ days_from_civil (pos y) m d =
    λ x. days_from_civil (year x) (month x) (day x) in
    let parts = days_from_civil-day_count (pos y) m d in
    let later : day_count (pos 1900) 1 1 ≤ day_count (pos y) m d =
    by_lt_z (pos 1900) (pos y)
    (λ lt. omega (
      arith,
      in_year y m d h,
      day_count-later_year (pos 1900) (pos y) (omega (arith, signed_arith)) lt,
    ))
    (λ ge. let same : y ≡ 1900 = omega (arith, signed_arith) in
    rw same (rw same at ((in_year y m d h).0))) in
    let number : n - 4_346_020 ≡ day_count (pos y) m d - day_count (pos 1900) 1 1 =
    omega (arith, signed_arith, parts, count, is, day_count-1900, later) in (
      omega (arith, signed_arith, parts, count, is, day_count-1900, later),
      rw (day_is y m d low high h) (ap Some number),
    )
