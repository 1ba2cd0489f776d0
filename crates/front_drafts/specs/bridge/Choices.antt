-- A choice one after another: the first condition that holds decides.
use Rattle.std.proofs.Common.{◌≡◌, Bool, true, false, if◌then◌else◌, refl}

-- the one of three conditions
pub second_of : {X : Type 0} (a b : Bool) (x y z : X) → a ≡ false → b ≡ true → y ≡ (if a then x else if b then y else z)
second_of true b x y z h k = absurd (cc)
second_of false true x y z h k = refl
second_of false false x y z h k = absurd (cc)

pub third_of : {X : Type 0} (a b c : Bool) (x y z u : X) → a ≡ false → b ≡ false → c ≡ true
    → z ≡ (if a then x else if b then y else if c then z else u)
third_of true b c x y z u h k l = absurd (cc)
third_of false true c x y z u h k l = absurd (cc)
third_of false false true x y z u h k l = refl
third_of false false false x y z u h k l = absurd (cc)

pub last_of : {X : Type 0} (a b c : Bool) (x y z u : X) → a ≡ false → b ≡ false → c ≡ false
    → u ≡ (if a then x else if b then y else if c then z else u)
last_of true b c x y z u h k l = absurd (cc)
last_of false true c x y z u h k l = absurd (cc)
last_of false false true x y z u h k l = absurd (cc)
last_of false false false x y z u h k l = refl
