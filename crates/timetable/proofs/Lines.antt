-- Interval lines: their limits, and the hop at a place by division.
use Rattle.std.proofs.Common.{◌≡◌, ℕ, zero, suc, ◌+◌, ◌-◌, ◌*◌, ◌/◌, ◌%◌, ◌<◌, ◌≤◌, Bool, true, false, ◌&&◌, eqb, leb, List, [], ◌∷◌, ◌++◌, map, length, get_or, Some, None, sym, refl, ap, ◌∙◌, subst, ⊎_elim, suc-mul, mul_comm, arith, length-append}
use lib.ListN.{length-map}
use Rattle.std.proofs.lemmas.Nat.{mul-le, mul-add-lt, div-add-mod', div-mul-add, mod-mul-add, div_below, mod_below}
use Rattle.std.proofs.lemmas.List.{get_or_append_left, get_or-append_right, get_or-map}
use Rattle.std.proofs.lemmas.Option.{slice_get-get_or}
use Rattle.std.proofs.lemmas.Bool.{and_parts, and_from, le-leb, leb-true, cases_lt}
use Rattle.timetable.specs.declared.hops.Hop.{Hop}
use Rattle.timetable.specs.Line.{most_pattern, shortest_interval, longest_interval, most_trips, shifted, line, hops_of_first_trip, arriving_by, all_arrive, within_range, line_allowed}
use Rattle.timetable.specs.LineFacts.{Passed, passed, line_trips}
use Rattle.timetable.specs.Rule.{day_end, keeps}
use Rattle.timetable.specs.RuleFacts.{fit_at, fit_limits}
use Rattle.timetable.specs.Table.{most_hops, trips_of, hop_at}
use Rattle.timetable.proofs.Places.{hop_at_place, hop_at_end, hop_at_far}

-- The last trip decides whether all arrive.
arrive_sooner : (later sooner : ℕ) (hs : List Hop) → sooner ≤ later → arriving_by later hs ≡ true → arriving_by sooner hs ≡ true
arrive_sooner later sooner [] l e = refl
arrive_sooner later sooner (h ∷ hs) l e =
    let p = and_parts (leb (h.arrival + later) day_end) _ e in
    let q = leb-true (h.arrival + later) day_end p.0 in
    and_from _ _ (le-leb (h.arrival + sooner) day_end (omega arith)) (arrive_sooner later sooner hs l p.1)

all_sooner : (pattern : List Hop) (interval later n : ℕ) → ((t : ℕ) → t < n → t * interval ≤ later) → arriving_by later pattern ≡ true → all_arrive pattern interval n ≡ true
all_sooner pattern interval later zero f e = refl
all_sooner pattern interval later (suc n) f e =
    and_from _ _ (arrive_sooner later (n * interval) pattern (f n (omega arith)) e)
    (all_sooner pattern interval later n (λ t l. f t (omega arith)) e)

pub last_decides : (pattern : List Hop) (interval n : ℕ) → 1 ≤ n → arriving_by ((n - 1) * interval) pattern ≡ all_arrive pattern interval n
last_decides pattern interval zero h = absurd (omega arith)
last_decides pattern interval (suc n) h =
    ap (λ m. arriving_by (m * interval) pattern) (omega arith) ∙ go (arriving_by (n * interval) pattern) refl
  where
    go : (b : Bool) → arriving_by (n * interval) pattern ≡ b → b ≡ (b && all_arrive pattern interval n)
    go true e = sym (all_sooner pattern interval (n * interval) n (λ t l. mul-le t interval n interval (omega arith) (omega arith)) e)
    go false e = refl

-- The places of a line.
length_line : (pattern : List Hop) (interval n : ℕ) → length (line pattern interval n) ≡ n * length pattern
length_line pattern interval zero = omega arith
length_line pattern interval (suc n) =
    length-append (line pattern interval n) (map (shifted n (n * interval)) pattern)
    ∙ ap (λ m. m + length (map (shifted n (n * interval)) pattern)) (length_line pattern interval n)
    ∙ ap (λ m. n * length pattern + m) (length-map pattern (shifted n (n * interval)))
    ∙ sym (suc-mul n (length pattern))

-- trip `place / length` has the hop `place % length` of the pattern there
line_at : (pattern : List Hop) (interval n place : ℕ) (d : Hop) → 1 ≤ length pattern → place < n * length pattern →
    get_or (line pattern interval n) place d
    ≡ shifted (place / length pattern) (place / length pattern * interval) (get_or pattern (place % length pattern) d)
line_at pattern interval zero place d some h = absurd (omega arith)
line_at pattern interval (suc n) place d some h =
    ⊎_elim
    (λ l. get_or_append_left (line pattern interval n) (map (shifted n (n * interval)) pattern) d place (subst (λ m. place < m) (sym (length_line pattern interval n)) l)
    ∙ line_at pattern interval n place d some l)
    (λ l. here l)
    (cases_lt place (n * length pattern))
  where
    here : n * length pattern ≤ place →
        get_or (line pattern interval n ++ map (shifted n (n * interval)) pattern) place d
        ≡ shifted (place / length pattern) (place / length pattern * interval) (get_or pattern (place % length pattern) d)
    here l =
        let within : place - n * length pattern < length pattern = omega (arith, suc-mul n (length pattern)) in
        let split : place ≡ n * length pattern + (place - n * length pattern) = omega arith in
        let quotient : n ≡ place / length pattern = sym (ap (λ m. m / length pattern) split ∙ div-mul-add n (length pattern) (place - n * length pattern) within) in
        let rest : place - n * length pattern ≡ place % length pattern = sym (ap (λ m. m % length pattern) split ∙ mod-mul-add n (length pattern) (place - n * length pattern) within) in
        get_or-append_right (line pattern interval n) (map (shifted n (n * interval)) pattern) (n * length pattern) place d (length_line pattern interval n) l
        ∙ get_or-map (shifted n (n * interval)) pattern (place - n * length pattern) d d within
        ∙ ap (λ t. shifted t (t * interval) (get_or pattern (place - n * length pattern) d)) quotient
        ∙ ap (λ m. shifted (place / length pattern) (place / length pattern * interval) (get_or pattern m d)) rest

-- each hop of an allowed line arrives by the day's end, and departs before
arrive_at : (later : ℕ) (hs : List Hop) (k : ℕ) (d : Hop) → k < length hs → arriving_by later hs ≡ true → (get_or hs k d).arrival + later ≤ day_end
arrive_at later [] k d h e = absurd (omega arith)
arrive_at later (x ∷ hs) zero d h e = leb-true (x.arrival + later) day_end (and_parts (leb (x.arrival + later) day_end) _ e).0
arrive_at later (x ∷ hs) (suc k) d h e = arrive_at later hs k d (omega arith) (and_parts (leb (x.arrival + later) day_end) _ e).1

pub trip_arrives : (pattern : List Hop) (interval n t : ℕ) → t < n → all_arrive pattern interval n ≡ true → arriving_by (t * interval) pattern ≡ true
trip_arrives pattern interval zero t h e = absurd (omega arith)
trip_arrives pattern interval (suc n) t h e =
    let p = and_parts (arriving_by (n * interval) pattern) _ e in
    ⊎_elim (λ l. trip_arrives pattern interval n t l p.1)
    (λ l. let same : n ≡ t = omega arith in subst (λ m. arriving_by (m * interval) pattern ≡ true) same p.0)
    (cases_lt t n)

runs_at : (hs : List Hop) (k : ℕ) (d : Hop) → k < length hs → hops_of_first_trip hs ≡ true → (get_or hs k d).runs ≡ true
runs_at [] k d h e = absurd (omega arith)
runs_at (x ∷ hs) zero d h e = (and_parts x.runs _ (and_parts (x.runs && eqb x.trip 0) _ e).0).0
runs_at (x ∷ hs) (suc k) d h e = runs_at hs k d (omega arith) (and_parts (x.runs && eqb x.trip 0) _ e).1

-- A line inside its limits.
module _ (xs : List Hop) (interval trips : ℕ) (ok : line_allowed xs interval trips ≡ true) where
  facts : Passed xs interval trips
  facts = passed xs interval trips ok

  pub hops_few : length xs * trips ≤ 3200
  hops_few = mul-le (length xs) trips 16 200 facts.few facts.limited

  pub long : length (line xs interval trips) ≡ length xs * trips
  long = length_line xs interval trips ∙ mul_comm trips (length xs)

  pub trips_is : trips ≡ trips_of (line xs interval trips)
  trips_is = let f = facts in let n = line_trips xs interval trips facts.some in omega arith

  -- past the last trip's last hop, and before
  pub past_end : (place : ℕ) → length xs * trips ≤ place → None ≡ hop_at (line xs interval trips) place
  past_end place h =
      ⊎_elim (λ l. hop_at_end (line xs interval trips) place l (let n = long in omega arith))
      (λ l. hop_at_far (line xs interval trips) place l) (cases_lt place most_hops)

  pub within : (place : ℕ) → place < length xs * trips → (place / length xs < trips) × (place % length xs < length xs)
  within place h = (div_below place (length xs) trips facts.some (subst (λ m. place < m) (mul_comm (length xs) trips) h), mod_below place (length xs) facts.some)

  -- a hop of the pattern as a trip has it
  module _ (trip column : ℕ) (on : trip < trips) (at : column < length xs) (d : Hop) where
    pub in_day : (get_or xs column d).arrival + trip * interval ≤ day_end
    in_day = arrive_at (trip * interval) xs column d at (trip_arrives xs interval trips trip on facts.arrive)

    pub forward : (get_or xs column d).departure < (get_or xs column d).arrival
    forward =
        (fit_limits (get_or xs column d)
        (fit_at None xs column (get_or xs column d) facts.kept (slice_get-get_or xs column d at))
        (runs_at xs column d at facts.first)).forward

    pub hop_is : (place : ℕ) → trip ≡ place / length xs → column ≡ place % length xs → Some (shifted trip (trip * interval) (get_or xs column d)) ≡ hop_at (line xs interval trips) place
    hop_is place t c =
        let n = long in
        let few_hops = hops_few in
        let inside : place / length xs * length xs + place % length xs < length xs * trips = mul-add-lt (place / length xs) (length xs) (place % length xs) trips (omega arith) (omega arith) in
        let whole_place : place / length xs * length xs + place % length xs ≡ place = div-add-mod' place (length xs) in
        let below : place < length xs * trips = omega arith in
        (λ i. Some (shifted (t i) (t i * interval) (get_or xs (c i) d)))
        ∙ sym (ap Some (line_at xs interval trips place d facts.some (let e = length_line xs interval trips in omega arith)))
        ∙ hop_at_place (line xs interval trips) place d (omega arith) (omega arith)

-- where all else is within limits, the last trip decides
pub allowed_decided : (pattern : List Hop) (interval trips : ℕ) →
    (within_range 1 most_pattern (length pattern) && (within_range shortest_interval longest_interval interval && within_range 1 most_trips trips)) ≡ true →
    keeps pattern ≡ true → hops_of_first_trip pattern ≡ true → arriving_by ((trips - 1) * interval) pattern ≡ line_allowed pattern interval trips
allowed_decided pattern interval trips r k f =
    let a = and_parts (within_range 1 most_pattern (length pattern)) _ r in
    let b = and_parts (within_range shortest_interval longest_interval interval) _ a.1 in
    last_decides pattern interval trips (leb-true 1 trips (and_parts (leb 1 trips) _ b.1).0)
    ∙ sym (simp (a.0, b.0, b.1, k, f))
