-- What a loop over the writes of a piece keeps.
use Rattle.std.proofs.Common.{◌≡◌, ℕ, ◌-◌, ◌≤◌, List, [], ◌++◌, length, take, drop, refl, sym, ap, subst, ◌∙◌, arith, Some, None, append_assoc, append-nil, length-drop}
use Rattle.std.specs.Prelude.{Option, IfSome}
use Rattle.std.proofs.lemmas.List.{take-append-drop, take_all}
use Rattle.base.specs.Outside.{Took}
use Rattle.base.specs.Given.{WasGiven}

-- a front of the bytes was given, and the rest is left
pub record FrontGiven (told told' : Option (List ℕ)) (faults faults' : ℕ) (bytes rest : List ℕ) : Type 0 where
  pub front : List ℕ
  pub joined : front ++ rest ≡ bytes
  pub given : WasGiven told front told'
  pub count : faults ≤ faults'

given_none : (told : Option (List ℕ)) → WasGiven told [] told
given_none None = tt
given_none (Some x) = (x, refl, sym (append-nil x))

pub written_none : (told : Option (List ℕ)) (faults : ℕ) (bytes : List ℕ) → FrontGiven told told faults faults bytes bytes
written_none told faults bytes = record { front = []; joined = refl; given = given_none told; count = omega arith }

given_more : (told told' told'' : Option (List ℕ)) (front more : List ℕ) → WasGiven told front told' → IfSome told'' (λ after. (before : List ℕ) × (told' ≡ Some before) × (after ≡ before ++ more)) → WasGiven told (front ++ more) told''
given_more told told' None front more g h = tt
given_more told told' (Some after) front more g h =
    let p : WasGiven told front (Some h.0) = subst (λ x. WasGiven told front x) h.1 g in
    (p.0, p.1, h.2 ∙ ap (λ x. x ++ more) p.2 ∙ append_assoc p.0 front more)

took_more : (told' told'' : Option (List ℕ)) (writes n writes'' : ℕ) (rest : List ℕ) → IfSome told'' (λ after. Took told' writes n rest after writes'') → IfSome told'' (λ after. (before : List ℕ) × (told' ≡ Some before) × (after ≡ before ++ take n rest))
took_more told' None writes n writes'' rest h = tt
took_more told' (Some after) writes n writes'' rest h = (h.before, h.was, h.appended)

pub written_more : (told told' told'' : Option (List ℕ)) (faults faults' faults'' writes n writes'' : ℕ) (bytes rest : List ℕ) → FrontGiven told told' faults faults' bytes rest → IfSome told'' (λ after. Took told' writes n rest after writes'') → faults' ≤ faults'' → FrontGiven told told'' faults faults'' bytes (drop n rest)
written_more told told' told'' faults faults' faults'' writes n writes'' bytes rest w h c = record {
  front = w.front ++ take n rest;
  joined = append_assoc w.front (take n rest) (drop n rest) ∙ ap (λ x. w.front ++ x) (take-append-drop n rest) ∙ w.joined;
  given = given_more told told' told'' w.front (take n rest) w.given (took_more told' told'' writes n writes'' rest h);
  count = omega (arith, w.count, c);
}

-- all of it
pub written_all : (told told' : Option (List ℕ)) (faults faults' : ℕ) (bytes rest : List ℕ) → FrontGiven told told' faults faults' bytes rest → rest ≡ [] → WasGiven told bytes told'
written_all told told' faults faults' bytes rest w e =
    subst (λ x. WasGiven told x told') (sym (append-nil w.front) ∙ ap (λ x. w.front ++ x) (sym e) ∙ w.joined) w.given

-- a rest as the code cuts it
pub rest_whole : (n : ℕ) (rest : List ℕ) → take (length rest - n) (drop n rest) ≡ drop n rest
rest_whole n rest = take_all (length rest - n) (drop n rest) (omega (arith, length-drop n rest))
