-- The finite tests decide free, fixed and covering, in a table whose rules rise and stay within its at most 32 tickets.
-- Assumes nothing. Free speaks of all gauges; the test looks at each rule's own minima alone: they are the lowest gauges at
-- which the rule is met, and next tickets only rise with the gauges, so a ticket that is overtaken anywhere is overtaken there.
use Rattle.std.specs.Prelude.{◌≡◌, ℕ, zero, suc, ◌+◌, ◌-◌, ◌<◌, ◌≤◌, Bool, true, false, cond, not, ◌&&◌, ◌||◌, ◌⊎◌, List, [], ◌∷◌, Decides, ◌==◌, ◌≢◌, nat_le, nat_lt, refl}
use Rattle.std.proofs.Common.{inl, inr, ⊎_elim, sym, subst, arith}
use Rattle.std.proofs.lemmas.Bool.{leb-true, le-leb, cases_lt, false≢true, and_parts, and_from}
use Rattle.std.proofs.lemmas.Bool.Decides.{Decides-eqb, Decides-ltb, Decides-and, Decides-not, Decides-like}
use Rattle.fares.specs.Readings.{AtMost, lowest_readings, largest_readings}
use Rattle.rule_table.specs.CoverTests.{each_below, some_below, reaches_ticket, outrunning_at, overtakes, steady, is_free, one_next, is_constant, covers_ticket}
use Rattle.rule_table.specs.Covering.{Free, Fixed, Covers}
use Rattle.rule_table.specs.Rules.{event_among, met, ticket_after, SomeRule, Leads, Reaches}
use Rattle.rule_table.specs.Rules.Reaches.{stays, goes}
use Rattle.fares.specs.declared.gauges.Gauges.{Gauges}
use Rattle.rule_table.specs.declared.rule.Rule.{Rule}
use Rattle.fares.proofs.GaugeOrder.{at_most_trans, at_most_same}
use Rattle.rule_table.specs.Bounded.{decides_all, decides_some, decides_rule, some_weaker, least}
use Rattle.rule_table.specs.NextTickets.{met_tells, met_from, next_ge, next_met, next_cases, next_rises, next_reached}
use Rattle.rule_table.specs.Reaching.{decides_itself, reaches_trans, reaches_split, reaches_le, reaches_within, decides_reaches}

decides_leb : (a b : ℕ) → Decides (nat_le a b) (a ≤ b)
decides_leb a b = (leb-true a b, le-leb a b)

decides_implies : {P Q : Type 0} (a b : Bool) → Decides a P → Decides b Q → Decides (not a || b) (P → Q)
decides_implies true b p q = (λ t _. q.0 t, λ f. q.1 (f (p.0 refl)))
decides_implies false b p q = (λ _ x. absurd (false≢true (p.1 x)), λ _. refl)

-- some rule, taken out with its place in the list
pub taken_out : {P : Rule → Type 0} (rs : List Rule) → SomeRule P rs → (r : Rule) × P r × SomeRule (λ q. q ≡ r) rs
taken_out [] s = absurd s
taken_out (r ∷ rs) (inl h) = (r, h, inl refl)
taken_out (r ∷ rs) (inr s) = let t = taken_out rs s in (t.0, t.1, inr t.2)

-- a rule leads on from m, at its own minima, past all that n comes to
abbrev Outrun : List Rule → Rule → ℕ → Type 0
Outrun rs r n = (e : ℕ) × (e < 16) × ((event_among r.events e ≡ true) × (ticket_after rs n r.minima e < r.target))

abbrev Overtaken : List Rule → ℕ → ℕ → Type 0
Overtaken rs m n = SomeRule (λ r. (r.ticket ≡ m) × Outrun rs r n) rs

decides_overtakes : (rs : List Rule) (m n : ℕ) → Decides (overtakes rs m n) (Overtaken rs m n)
decides_overtakes rs m n =
    decides_rule _ _
    (λ r. Decides-and (r.ticket == m) (some_below (outrunning_at rs r n) 16) (Decides-eqb r.ticket m)
    (decides_some _ _ (λ e. Decides-and (event_among r.events e) (nat_lt (ticket_after rs n r.minima e) r.target)
    (decides_itself (event_among r.events e)) (Decides-ltb (ticket_after rs n r.minima e) r.target)) 16))
    rs

-- what the test of a free ticket says: all that k reaches is one line, along which none is overtaken
abbrev InLine : List Rule → ℕ → Type 0
InLine rs k =
    (m : ℕ) → m < 32 → (n : ℕ) → n < 32 → Reaches rs k m × (Reaches rs k n × (m ≤ n)) → Reaches rs m n × (Overtaken rs m n → ⊥)

module _ (count : ℕ) (rs : List Rule) (few : count ≤ 32) (rising : (k p : ℕ) → Leads rs k p → (k < p) × (p < count)) where
  reach? : (k l : ℕ) → Decides (reaches_ticket rs k l) (Reaches rs k l)
  reach? = decides_reaches count rs rising few

  decides_in_line : (k : ℕ) → Decides (is_free rs k) (InLine rs k)
  unfolding is_free steady
  decides_in_line k =
      decides_all _ _ (λ m. decides_all _ _ (λ n.
      decides_implies (reaches_ticket rs k m && (reaches_ticket rs k n && nat_le m n)) (steady rs m n)
      (Decides-and (reaches_ticket rs k m) (reaches_ticket rs k n && nat_le m n) (reach? k m) (Decides-and (reaches_ticket rs k n) (nat_le m n) (reach? k n) (decides_leb m n)))
      (Decides-and (reaches_ticket rs m n) (not (overtakes rs m n)) (reach? m n) (Decides-not (overtakes rs m n) (decides_overtakes rs m n)))) 32) 32

  -- ---- from the test

  in_line_at : (k : ℕ) → k < count → InLine rs k → (m n : ℕ) → Reaches rs k m → Reaches rs k n → m ≤ n → Reaches rs m n × (Overtaken rs m n → ⊥)
  in_line_at k h line m n rm rn le =
      let a : m < count = reaches_within count rs rising rm h in
      let b : n < count = reaches_within count rs rising rn h in
      line m (omega arith) n (omega arith) (rm, (rn, le))

  -- In a line, neighbours are led to directly. The lower reaches the higher, so some rule leads on from it; the ticket that
  -- it leads to is reached as well, and lies between the two or is the higher one. Between them there is none.
  line_chain : (k : ℕ) → k < count → InLine rs k → (m n : ℕ) → Reaches rs k m → Reaches rs k n → m < n
      → ((x : ℕ) → m < x → x < n → Reaches rs k x → ⊥) → Leads rs m n
  line_chain k h line m n rm rn lt none = pick (reaches_split (in_line_at k h line m n rm rn (omega arith)).0)
    where
      arrived : (p : ℕ) → Leads rs m p → (p < n) ⊎ (n ≤ p) → p ≤ n → Leads rs m n
      arrived p s (inl short) le = absurd (none p (rising m p s).0 short (reaches_trans rm (goes s stays)))
      arrived p s (inr far) le = let e : p ≡ n = omega arith in subst (λ (x : ℕ). Leads rs m x) e s

      pick : (m ≡ n) ⊎ ((p : ℕ) × Leads rs m p × Reaches rs p n) → Leads rs m n
      pick (inl e) = absurd (omega arith)
      pick (inr t) = arrived t.0 t.1 (cases_lt t.0 n) (reaches_le count rs rising t.2)

  -- In a line where none is overtaken, the order of two tickets lasts. The next ticket of m is m, or the target of a met
  -- rule. In the second case n does not stay behind that target at the rule's minima, so neither does it at gauges that
  -- are no lower. Both next tickets are in the line, where the lower reaches the higher.
  line_keeps : (k : ℕ) → k < count → InLine rs k → (m n : ℕ) → Reaches rs k m → Reaches rs m n
      → (g h : Gauges) → AtMost g h → (e : ℕ) → e < 16 → Reaches rs (ticket_after rs m g e) (ticket_after rs n h e)
  line_keeps k hk line m n rm rmn g h a e he =
      (in_line_at k hk line (ticket_after rs m g e) (ticket_after rs n h e) (reaches_trans rm (next_reached rs m g e))
      (reaches_trans (reaches_trans rm rmn) (next_reached rs n h e)) (order (next_cases rs m g e m))).0
    where
      behind : Overtaken rs m n → ⊥
      behind = (in_line_at k hk line m n rm (reaches_trans rm rmn) (reaches_le count rs rising rmn)).1

      order : (ticket_after rs m g e ≡ m) ⊎ SomeRule (λ r. (met r m g e ≡ true) × (r.target ≡ ticket_after rs m g e)) rs → ticket_after rs m g e ≤ ticket_after rs n h e
      order (inl i) = omega (arith, reaches_le count rs rising rmn, next_ge rs n h e n)
      order (inr s) =
          ⊎_elim {C = ticket_after rs m g e ≤ ticket_after rs n h e}
          (λ short. absurd (behind (some_weaker (λ r t.
          let f = met_tells r m g e t.0 in
          (f.ticket, (e, he, (f.event, omega (arith, t.1, next_rises rs n r.minima h e n n (at_most_trans {f = r.minima} {g = g} {h = h} f.minima a) (omega arith)))))) rs s)))
          (λ le. le) (cases_lt (ticket_after rs n h e) (ticket_after rs m g e))

  free_from_line : (k : ℕ) → k < count → InLine rs k → Free rs k
  free_from_line k h line = record { chain = line_chain k h line; keeps = line_keeps k h line }

  -- ---- to the test

  -- Along a chain, a lower ticket reaches a higher one: by induction on how far apart they may be, d. The first reached
  -- ticket above the lower one is its neighbour, to which the chain has a rule; from there the way is shorter.
  chain_reaches : (k : ℕ) → Free rs k → (d m n : ℕ) → n ≤ m + d → Reaches rs k m → Reaches rs k n → m ≤ n → Reaches rs m n
  chain_reaches k free zero m n far rm rn le = let e : m ≡ n = omega arith in subst (λ (x : ℕ). Reaches rs m x) e stays
  chain_reaches k free (suc d) m n far rm rn le = pick (λ x a rx b. chain_reaches k free d x n a rx rn b) (cases_lt m n)
    where
      next_up : m < n → (x : ℕ) × (m + 1 ≤ x) × (x ≤ m + 1 + (n - (m + 1))) × (reaches_ticket rs k x ≡ true) × ((y : ℕ) → m + 1 ≤ y → y < x → reaches_ticket rs k y ≢ true)
      next_up lt = let e : n ≡ m + 1 + (n - (m + 1)) = omega arith in least (reaches_ticket rs k) (n - (m + 1)) (m + 1) (subst (λ (x : ℕ). reaches_ticket rs k x ≡ true) e ((reach? k n).1 rn))

      On : Type 0
      On = (x : ℕ) → n ≤ x + d → Reaches rs k x → x ≤ n → Reaches rs x n

      step : On → m < n → (x : ℕ) × (m + 1 ≤ x) × (x ≤ m + 1 + (n - (m + 1))) × (reaches_ticket rs k x ≡ true) × ((y : ℕ) → m + 1 ≤ y → y < x → reaches_ticket rs k y ≢ true) → Reaches rs m n
      step on lt t =
          let rx = (reach? k t.0).0 t.3 in
          goes (free.chain m t.0 rm rx (omega (arith, t.1)) (λ y a b ry. t.4 y (omega arith) b ((reach? k y).1 ry)))
          (on t.0 (omega (arith, t.1)) rx (omega (arith, t.2)))

      pick : On → (m < n) ⊎ (n ≤ m) → Reaches rs m n
      pick on (inl lt) = step on lt (next_up lt)
      pick on (inr ge) = let e : m ≡ n = omega arith in subst (λ (x : ℕ). Reaches rs m x) e stays

  line_from_free : (k : ℕ) → Free rs k → InLine rs k
  line_from_free k free m hm n hn (rm, (rn, le)) = (along, overtaken)
    where
      along : Reaches rs m n
      along = chain_reaches k free n m n (omega arith) rm rn le

      overtaken : Overtaken rs m n → ⊥
      overtaken s =
          let t = taken_out rs s in
          let r = t.0 in
          let e = t.1.1.0 in
          let here : met r m r.minima e ≡ true =
          met_from r m r.minima e (record { ticket = t.1.0; event = t.1.1.2.0; minima = at_most_same r.minima }) in
          let on : r.target ≤ ticket_after rs m r.minima e =
          next_met rs m r.minima e m r.target
          (some_weaker (λ q i. subst (λ (x : Rule). (met x m r.minima e ≡ true) × (r.target ≤ x.target)) (sym i) (here, omega arith)) rs t.2) in
          let kept : Reaches rs (ticket_after rs m r.minima e) (ticket_after rs n r.minima e) =
          free.keeps m n rm along r.minima r.minima (at_most_same r.minima) e t.1.1.1 in
          omega (arith, reaches_le count rs rising kept, t.1.1.2.1)

  pub decides_free : (k : ℕ) → k < count → Decides (is_free rs k) (Free rs k)
  decides_free k h = Decides-like (is_free rs k) (free_from_line k h) (line_from_free k) (decides_in_line k)

  -- what a free ticket reaches is free
  pub free_onward : (k p : ℕ) → k < count → Free rs k → Reaches rs k p → Free rs p
  free_onward k p h free rp =
      free_from_line p (reaches_within count rs rising rp h)
      (λ m hm n hn t. line_from_free k free m hm n hn (reaches_trans rp t.0, (reaches_trans rp t.1.0, t.1.1)))

  -- ---- fixed tickets

  abbrev OneNext : ℕ → Type 0
  OneNext k = (m : ℕ) → Reaches rs k m → (e : ℕ) → e < 16 → (g h : Gauges) → ticket_after rs m g e ≡ ticket_after rs m h e

  decides_constant : (k : ℕ) → Decides (is_constant rs k) ((m : ℕ) → m < 32 → Reaches rs k m → (e : ℕ) → e < 16 → ticket_after rs m lowest_readings e ≡ ticket_after rs m largest_readings e)
  unfolding is_constant
  decides_constant k =
      decides_all _ _ (λ m. decides_implies (reaches_ticket rs k m) (each_below (one_next rs m) 16) (reach? k m)
      (decides_all _ _ (λ e. Decides-eqb (ticket_after rs m lowest_readings e) (ticket_after rs m largest_readings e)) 16)) 32

  one_next_from : (k : ℕ) → k < count → ((m : ℕ) → m < 32 → Reaches rs k m → (e : ℕ) → e < 16 → ticket_after rs m lowest_readings e ≡ ticket_after rs m largest_readings e) → OneNext k
  one_next_from k h same m rm e he g g' =
      let w : m < count = reaches_within count rs rising rm h in
      let s = same m (omega arith) rm e he in
      omega (
        arith,
        s,
        next_rises rs m lowest_readings g e m m (low g) (omega arith),
        next_rises rs m g largest_readings e m m (high g) (omega arith),
        next_rises rs m lowest_readings g' e m m (low g') (omega arith),
        next_rises rs m g' largest_readings e m m (high g') (omega arith),
      )
    where
      low : (x : Gauges) → AtMost lowest_readings x
      low x = record { metres = omega arith; stops = omega arith; zones = omega arith; level = omega arith }

      high : (x : Gauges) → AtMost x largest_readings
      high x = record { metres = x.fits.0; stops = x.fits.1; zones = x.fits.2; level = x.fits.3 }

  pub decides_one_next : (k : ℕ) → k < count → Decides (is_constant rs k) (OneNext k)
  decides_one_next k h =
      Decides-like (is_constant rs k) (one_next_from k h) (λ one m hm rm e he. one m rm e he lowest_readings largest_readings) (decides_constant k)

  -- ---- covering

  -- of a ticket of the table; b: whether it is free
  decides_by : (k l : ℕ) (h : k < count) (b : Bool) → Decides b (Free rs k)
      → Decides (cond b (reaches_ticket rs k l) (is_constant rs k && k == l)) ((Free rs k × Reaches rs k l) ⊎ (Fixed rs k × (k ≡ l)))
  decides_by k l h true f = (
    λ t. inl (f.0 refl, (reach? k l).0 t),
    ⊎_elim {C = reaches_ticket rs k l ≡ true} (λ c. (reach? k l).1 c.1) (λ c. absurd (c.0.not_free (f.0 refl))),
  )
  decides_by k l h false f = (
    λ t. let c = both.0 t in inr (record { not_free = bound; one_next = c.0 }, c.1),
    ⊎_elim {C = (is_constant rs k && k == l) ≡ true} (λ c. absurd (bound c.0)) (λ c. both.1 (c.0.one_next, c.1)),
  )
    where
      bound : Free rs k → ⊥
      bound x = false≢true (f.1 x)

      both : Decides (is_constant rs k && k == l) (OneNext k × (k ≡ l))
      both = Decides-and (is_constant rs k) (k == l) (decides_one_next k h) (Decides-eqb k l)

  pub decides_covers : (k l : ℕ) → Decides (covers_ticket count rs k l) (Covers count rs k l)
  unfolding covers_ticket
  decides_covers k l = (there, back)
    where
      there : covers_ticket count rs k l ≡ true → Covers count rs k l
      there t =
          let a = and_parts (nat_lt k count) (cond (is_free rs k) (reaches_ticket rs k l) (is_constant rs k && k == l)) t in
          let h = (Decides-ltb k count).0 a.0 in
          (h, (decides_by k l h (is_free rs k) (decides_free k h)).0 a.1)

      back : Covers count rs k l → covers_ticket count rs k l ≡ true
      back c = and_from _ _ ((Decides-ltb k count).1 c.0) ((decides_by k l c.0 (is_free rs k) (decides_free k c.0)).1 c.1)
