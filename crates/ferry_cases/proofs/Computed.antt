-- Each case, computed.
use Rattle.std.proofs.Common.{◌≡◌, [], ◌∷◌, Ok, refl, ◌∙◌}
use lib.Count.{ones}
use Rattle.journeys.specs.Scan.{pass_hop}
use Rattle.journeys.specs.Selection.{pick, picks, best_offers}
use Rattle.sheet.specs.Format.{encode_row, encode}
use Rattle.sheet.specs.Reading.{bits, spread, decode_row, decode_rows, decode}
use Rattle.planner.specs.Limits.{fault_of}
use Rattle.ferry_cases.specs.FerryBoard.{ferry_hops, to}
use Rattle.ferry_cases.specs.FerryCases.{FerryCases, read_from, both_ways, no_way, half_way, no_trip, by_ferry, by_land_first, refused}
use Rattle.ferry_cases.proofs.Days.{shown_over, without_1, with_0_at, after_nothing, after_cancel, after_300, after_301}
use Rattle.ferry_cases.proofs.Tickets.{small_tariff, tariff_is}

-- what is unfolded where a question is computed, and where bytes are read

asking : Unit {0}
unfolding shown_over fault_of pass_hop pick picks best_offers encode_row encode ones
asking = tt

sheet_reading : Unit {0}
unfolding read_from bits spread decode_row decode_rows decode
sheet_reading = tt

-- the cases, under the tariff with the small function

roomy : shown_over small_tariff ferry_hops (to 3 2) 64 16 ≡ Ok both_ways
unfolding asking
roomy = refl

six_labels : shown_over small_tariff ferry_hops (to 3 2) 6 16 ≡ Ok both_ways
unfolding asking
six_labels = refl

five_labels : shown_over small_tariff ferry_hops (to 3 2) 5 16 ≡ refused 12 5
unfolding asking
five_labels = refl

two_aboard : shown_over small_tariff ferry_hops (to 3 2) 64 2 ≡ Ok both_ways
unfolding asking
two_aboard = refl

one_aboard : shown_over small_tariff ferry_hops (to 3 2) 64 1 ≡ refused 13 3
unfolding asking
one_aboard = refl

one_ride : shown_over small_tariff ferry_hops (to 3 1) 64 16 ≡ Ok no_way
unfolding asking
one_ride = refl

to_one : shown_over small_tariff ferry_hops (to 1 2) 64 16 ≡ Ok half_way
unfolding asking
to_one = refl

to_zero : shown_over small_tariff ferry_hops (to 0 2) 64 16 ≡ Ok no_trip
unfolding asking
to_zero = refl

cancelled : shown_over small_tariff without_1 (to 3 2) 64 16 ≡ Ok by_ferry
unfolding asking
cancelled = refl

late : shown_over small_tariff (with_0_at 900 1200) (to 3 2) 64 16 ≡ Ok both_ways
unfolding asking
late = refl

later : shown_over small_tariff (with_0_at 901 1201) (to 3 2) 64 16 ≡ Ok by_land_first
unfolding asking
later = refl

zero_byte : read_from (0x01 ∷ 0x1b ∷ 0xdc ∷ 0x05 ∷ 0x5e ∷ 0x00 ∷ []) ≡ refused 16 0
unfolding sheet_reading
zero_byte = refl

left_over : read_from (0x00 ∷ 0x00 ∷ []) ≡ refused 16 255
unfolding sheet_reading
left_over = refl

pub ferry_cases : FerryCases
ferry_cases = rw tariff_is (
  after_nothing small_tariff (to 3 2) 64 16 ∙ roomy,
  (
    after_nothing small_tariff (to 3 2) 6 16 ∙ six_labels,
    (
      after_nothing small_tariff (to 3 2) 5 16 ∙ five_labels,
      (
        after_nothing small_tariff (to 3 2) 64 2 ∙ two_aboard,
        (
          after_nothing small_tariff (to 3 2) 64 1 ∙ one_aboard,
          (
            after_nothing small_tariff (to 3 1) 64 16 ∙ one_ride,
            (
              after_nothing small_tariff (to 1 2) 64 16 ∙ to_one,
              (
                after_nothing small_tariff (to 0 2) 64 16 ∙ to_zero,
                (
                  after_cancel small_tariff (to 3 2) 64 16 ∙ cancelled,
                  (
                    after_300 small_tariff (to 3 2) 64 16 ∙ late,
                    (
                      after_301 small_tariff (to 3 2) 64 16 ∙ later,
                      (
                        zero_byte,
                        (left_over, tt),
                      ),
                    ),
                  ),
                ),
              ),
            ),
          ),
        ),
      ),
    ),
  ),
)
