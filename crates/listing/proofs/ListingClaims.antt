-- The claims of `specs/ListingClaims.antt`. Assumes nothing.
use Prim.Native.Nat.{ℕ, ◌<◌, ◌≤◌}
use mathlib.Core.Path.{◌≡◌}
use mathlib.Core.List.{List}
use native.Mathlib.Omega.{arith}
use native.Mathlib.Nat.{le_trans}
use lib.ListN.{get_or, take, length-take}
use Rattle.image.specs.Image.{opened_of}
use Rattle.run.specs.Run.{run_of}
use Rattle.lines.specs.Words.{printed}
use Rattle.lines.specs.Shown.{current}
use Rattle.registers.specs.Register.{register_in, register_as, register_of}
use Rattle.listing.specs.Listing.{Age, parts_for, wanted_lines, listed, checked_of, listing_of}
use Rattle.listing.specs.ListingClaims.{PlainAgrees, PaddedAgrees, AgreesOnly, FaultIsFirst, longest_listing, LongestListing, FirstBytesDecide}
use Rattle.listing.specs.Comparing.{compared_of}
use Rattle.listing.proofs.ComparedLines.{lines_compared}
use Rattle.listing.proofs.FirstFault.{fault_first}
use Rattle.listing.proofs.Agreeing.{FineLines, Short, padded_agrees_law, listing_only, plain_lines}
use Rattle.listing.proofs.Wanted.{lines_fine, outcome_always}
use Rattle.listing.proofs.Small.{outcome_short}
use Rattle.listing.proofs.FirstBytes.{lines_room, lines_room_law, decided}
use Rattle.listing.proofs.Longest.{register_room}

-- a fact that every number has
data Any (n : ℕ) : Type 0 where
  any : Any n

wanted_fine : (image picks : List ℕ) (age : Age) → FineLines Any (wanted_lines image picks age)
unfolding wanted_lines
wanted_fine image picks age =
    lines_fine (parts_for age) (opened_of image).net (take 65536 picks)
    (outcome_always Any (λ n. any) (opened_of image).net (take 65536 picks) (run_of image (take 65536 picks)))

wanted_short :
    (image picks : List ℕ) (age : Age) → ((i : ℕ) → get_or picks i 0 < 256) → FineLines Short (wanted_lines image picks age)
unfolding wanted_lines
wanted_short image picks age bytes =
    lines_fine (parts_for age) (opened_of image).net (take 65536 picks) (outcome_short image picks bytes)

pub padded_agrees : PaddedAgrees
unfolding PaddedAgrees listing_of checked_of
padded_agrees image picks listing age p = padded_agrees_law 1 (wanted_fine image picks age) p

pub agrees_only : AgreesOnly
unfolding AgreesOnly listing_of checked_of
agrees_only image picks listing age h = listing_only 1 (wanted_lines image picks age) listing h

pub plain_agrees : PlainAgrees
unfolding PaddedAgrees register_of register_as register_in wanted_lines parts_for current
plain_agrees = record {
  today = λ image picks bytes. padded_agrees image picks _ Age.New (plain_lines (wanted_short image picks Age.New bytes));
  either = λ image picks age bytes. padded_agrees image picks _ age (plain_lines (wanted_short image picks age bytes));
}

pub fault_is_first : FaultIsFirst
unfolding FaultIsFirst listing_of checked_of
fault_is_first image picks listing age = fault_first 1 (wanted_lines image picks age) (listed listing)

-- ---- the bytes, compared as the code does
pub compared_is :
    (image picks listing : List ℕ) (age : Age) → ((i : ℕ) → get_or picks i 0 < 256)
    → compared_of (printed (wanted_lines image picks age)) listing ≡ listing_of image picks listing age
unfolding compared_of listing_of checked_of
compared_is image picks listing age bytes = lines_compared (wanted_short image picks age bytes) 1 listing

-- ---- how long
wanted_room : (image picks : List ℕ) (age : Age) → lines_room (wanted_lines image picks age) ≤ longest_listing
unfolding wanted_lines
wanted_room image picks age =
    register_room (parts_for age) _ (take 65536 picks) _ (omega (arith, length-take 65536 picks))

pub longest_agrees : LongestListing
unfolding LongestListing AgreesOnly
longest_agrees image picks listing age h =
    le_trans (lines_room_law (agrees_only image picks listing age h)) (wanted_room image picks age)

pub first_bytes_decide : FirstBytesDecide
unfolding FirstBytesDecide listing_of checked_of
first_bytes_decide image picks listing age k h =
    let most = wanted_room image picks age in
    decided (wanted_lines image picks age) 1 k listing (omega (arith, most))
