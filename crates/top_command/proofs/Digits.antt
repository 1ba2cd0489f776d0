-- Numbers, one digit at a time, and the limits of those that are taken.
use Rattle.std.proofs.Common.{◌≡◌, ℕ, ◌+◌, ◌-◌, ◌*◌, ◌<◌, ◌≤◌, List, [], ◌∷◌, length, get_or, drop, Bool, true, false, Option, Some, None, if◌then◌else◌, refl, arith, add-one, drop-cons}
use Rattle.std.proofs.lemmas.Bool.{lt-leb, leb-true}
use Rattle.std.proofs.lemmas.List.{drop_all}
use Rattle.std.specs.Prelude.{nat_le, codes}
use Rattle.std.proofs.Common.{subst}
use Rattle.clap.specs.Walk.{Text, first_of}
use Rattle.clap.specs.Kinds.{Kinds}
use Rattle.top_command.specs.declared.command.Action.{Action}
use Rattle.top_command.specs.Command.{is_digit, decimal_from, up_to, at_least, digits_in, action_in, steps_in, arena_in, Request, asked_for, asked_by, asked_unless, refusals, given, asked}

-- one digit more of those that are left
pub decimal_at : (bs : List ℕ) (i n : ℕ) → i < length bs → decimal_from n (drop i bs) ≡ (if is_digit (get_or bs i 0) then decimal_from (n * 10 + (get_or bs i 0 - 48)) (drop (i + 1) bs) else None)
decimal_at bs i n h = rw (drop-cons bs i 0, add-one i) refl

pub decimal_end : (bs : List ℕ) (i n : ℕ) → length bs ≤ i → decimal_from n (drop i bs) ≡ Some n
decimal_end bs i n h = rw (drop_all i bs h) refl

-- what a digit more, or none, comes to
chosen : (d : Bool) (x : Option ℕ) (limit : ℕ) → up_to limit x ≡ None → up_to limit (if d then x else None) ≡ None
chosen true x limit h = h
chosen false x limit h = refl

-- more digits make no number smaller
pub too_large : (limit n : ℕ) (bs : List ℕ) → limit < n → up_to limit (decimal_from n bs) ≡ None
too_large limit n [] h = rw (lt-leb n limit h) refl
too_large limit n (b ∷ bs) h =
    chosen (is_digit b) (decimal_from (n * 10 + (b - 48)) bs) limit
    (too_large limit (n * 10 + (b - 48)) bs (omega arith))

pub ruleset digits = (decimal_at, decimal_end, too_large)

-- a number that is taken is within its limits
taken : (b d : Bool) (least most n m : ℕ) → nat_le n most ≡ b → nat_le least n ≡ d → at_least least (if b then Some n else None) ≡ Some m → (least ≤ m) × (m ≤ most)
taken false d least most n m h k e = absurd (cc)
taken true d least most n m h k e = under d k e
  where
    under : (d : Bool) → nat_le least n ≡ d → (if nat_le least n then Some n else None) ≡ Some m → (least ≤ m) × (m ≤ most)
    under true k e =
        let same : n ≡ m = cc in
        (subst (λ x. least ≤ x) same (leb-true least n k), subst (λ x. x ≤ most) same (leb-true n most h))
    under false k e = absurd (cc)

within : (least most : ℕ) (o : Option ℕ) (m : ℕ) → at_least least (up_to most o) ≡ Some m → (least ≤ m) × (m ≤ most)
within least most None m e = absurd (cc)
within least most (Some n) m e = taken (nat_le n most) (nat_le least n) least most n m refl refl e

arena_within : (word : Option Text) (n : ℕ) → arena_in word ≡ Some n → (65536 ≤ n) × (n ≤ 16777216)
arena_within None n e = let same : 4194304 ≡ n = cc in subst (λ x. (65536 ≤ x) × (x ≤ 16777216)) same (omega arith, omega arith)
arena_within (Some word) n e = within 65536 16777216 (digits_in word) n e

for_within : (action : Option Action) (steps : Option ℕ) (arena : Option ℕ) (file : Option Text) (c : Request) → ((n : ℕ) → arena ≡ Some n → (65536 ≤ n) × (n ≤ 16777216)) → asked_for action steps arena file ≡ Some c → (65536 ≤ c.arena) × (c.arena ≤ 16777216)
for_within None steps arena file c h e = absurd (cc)
for_within (Some action) None arena file c h e = absurd (cc)
for_within (Some action) (Some steps) None file c h e = absurd (cc)
for_within (Some action) (Some steps) (Some arena) None c h e = absurd (cc)
for_within (Some action) (Some steps) (Some arena) (Some file) c h e =
    let same : record { action = action; steps = steps; arena = arena; file = file } ≡ c = cc in
    subst (λ (x : Request). (65536 ≤ x.arena) × (x.arena ≤ 16777216)) same (h arena refl)

unless_within : (k : Kinds) (o : Option Request) (c : Request) → asked_unless k o ≡ Some c → o ≡ Some c
unless_within [] o c e = e
unless_within (k ∷ ks) o c e = absurd (cc)

-- the arena of a command is one that a machine may have
pub asked_within : (words : List Text) (c : Request) → asked words ≡ Some c → (65536 ≤ c.arena) × (c.arena ≤ 16777216)
asked_within words c e =
    let rows = given words in
    for_within (action_in (first_of (codes "action") rows) (first_of (codes "file") rows)) (steps_in (first_of (codes "steps") rows)) (arena_in (first_of (codes "arena") rows)) (first_of (codes "file") rows) c
    (arena_within (first_of (codes "arena") rows))
    (unless_within (refusals words) (asked_by rows) c e)
