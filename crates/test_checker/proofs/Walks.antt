-- Tests in a row: the first that fails settles the answer.
use Rattle.std.proofs.Common.{◌≡◌, Bool, true, false, ◌&&◌, ap, sym, ◌∙◌}

-- a conjunction of three, by its first two
pub past_two : (a b rest whole : Bool) → whole ≡ (a && b && rest) → a ≡ true → b ≡ true → rest ≡ whole
past_two a b rest whole h e d = ap (λ x. x && rest) (sym d) ∙ ap (λ x. x && b && rest) (sym e) ∙ sym h

pub first_of_three : (a b rest whole : Bool) → whole ≡ (a && b && rest) → a ≡ false → false ≡ whole
first_of_three a b rest whole h e = ap (λ x. x && b && rest) (sym e) ∙ sym h

pub second_of_three : (a b rest whole : Bool) → whole ≡ (a && b && rest) → a ≡ true → b ≡ false → false ≡ whole
second_of_three a b rest whole h e d = ap (λ x. x && rest) (sym d) ∙ ap (λ x. x && b && rest) (sym e) ∙ sym h
