-- Decimal digits, from the last to the first.
use Rattle.std.proofs.Common.{◌≡◌, ℕ, zero, suc, ◌+◌, ◌-◌, ◌*◌, ◌/◌, ◌%◌, ◌^◌, ◌<◌, ◌≤◌, List, [], ◌∷◌, ◌++◌, length, get_or, drop, refl, sym, ap, ◌∙◌, append_assoc, add-one, arith, drop-cons}
use Rattle.std.proofs.Math.ListN.{set}
use Rattle.std.proofs.lemmas.List.{drop-set-lt}
use Rattle.std.proofs.lemmas.Fmt.{decimal_step, decimal_digit}
use Rattle.std.proofs.Math.Nat.{pow-succ'}
use Rattle.std.specs.Fmt.{decimal}

-- what stands from a place on
behind : (room : List ℕ) (at d : ℕ) → at < length room → get_or room at 0 ≡ d → drop at room ≡ d ∷ drop (at + 1) room
behind room at d within e = drop-cons room at 0 within ∙ rw (e, add-one at) refl

-- a digit more, in front of those that are there
pub digit_more : (room : List ℕ) (at rest : ℕ) (digits : List ℕ) (v : ℕ) → 0 < at → at < length room → 10 ≤ rest → rest < 2 ^ 64 → get_or room at 0 ≡ 48 + rest % 10 → decimal rest ++ drop (at + 1) room ≡ digits → decimal (rest / 10) ++ drop (at - 1 + 1) (set room (at - 1) v) ≡ digits
digit_more room at rest digits v some within large bound last e =
    let back : at - 1 + 1 ≡ at = omega arith in
    ap (λ n. decimal (rest / 10) ++ drop n (set room (at - 1) v)) back
    ∙ ap (λ l. decimal (rest / 10) ++ l) (drop-set-lt at room (at - 1) v (omega arith) ∙ behind room at (48 + rest % 10) within last)
    ∙ sym (append_assoc (decimal (rest / 10)) ((48 + rest % 10) ∷ []) (drop (at + 1) room))
    ∙ ap (λ l. l ++ drop (at + 1) room) (sym (decimal_step rest large (omega (arith, bound))))
    ∙ e

-- the first digit, and those behind it
pub digit_last : (room : List ℕ) (at rest : ℕ) (digits : List ℕ) → at < length room → rest < 10 → get_or room at 0 ≡ 48 + rest % 10 → decimal rest ++ drop (at + 1) room ≡ digits → drop at room ≡ digits
digit_last room at rest digits within small last e =
    let whole : 48 + rest % 10 ≡ 48 + rest = omega arith in
    behind room at (48 + rest) within (last ∙ whole) ∙ ap (λ l. l ++ drop (at + 1) room) (sym (decimal_digit rest small)) ∙ e

-- a number of more than one digit needs room for more than one
pub some_room : (at rest : ℕ) → 10 ≤ rest → rest < 10 ^ (at + 1) → 0 < at
some_room zero rest large room = absurd (omega (arith, large, room))
some_room (suc at) rest large room = omega arith

-- and a tenth of it for one less
pub room_left : (at rest : ℕ) → 0 < at → rest < 10 ^ (at + 1) → rest / 10 < 10 ^ (at - 1 + 1)
room_left at rest some room =
    let back : at - 1 + 1 ≡ at = omega arith in
    let ten : 10 ^ (at + 1) ≡ 10 * 10 ^ at = rw (add-one at) (pow-succ' 10 at) in
    rw back (omega (arith, room, ten))
