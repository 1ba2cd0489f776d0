-- What a symbol stands for is what the innermost thing that has it says.
use Rattle.std.proofs.Common.{◌≡◌, ℕ, zero, suc, ◌+◌, ◌<◌, Bool, true, false, List, [], ◌∷◌, ◌++◌, Option, Some, None, length, refl, sym, ap, subst, ◌∙◌, if◌then◌else◌, take, add-one, arith}
use Rattle.std.specs.Prelude.{drop, slice_index_or}
use Rattle.std.specs.Prelude.{slice_get}
use Rattle.std.proofs.Math.Seq.{drop-cons}
use Rattle.std.proofs.lemmas.List.{take_all}
use Rattle.base.specs.model.DataRest.{take_at}
use Rattle.base.specs.declared.datum.Symbol.{Symbol}
use Rattle.front_profile.specs.declared.bound.Target.{Target}
use Rattle.front_profile.specs.declared.bound.Bound.{Bound}
use Rattle.front_profile.specs.declared.bound.Bound.TheVariants.{Variable, Function, Block, Tags}
use Rattle.front_profile.specs.Names.{same_symbol, given_by, target_among, or_first, innermost, as_variable, as_function, as_block, as_tag, variable_of, function_of, block_of, tag_of}
use Rattle.front_context.specs.Spaces.{under, Spaces, no_names, targets, with_one, with_all, spaces_of, without}

-- one thing in front of a list

module _ {X : Type 0} where
  first_twice : (x y z : Option X) → or_first (or_first x y) z ≡ or_first x (or_first y z)
  first_twice None y z = refl
  first_twice (Some x) y z = refl

  first_none : (x : Option X) → or_first x None ≡ x
  first_none None = refl
  first_none (Some x) = refl

under_one : (b : Bool) (n : ℕ) (y : Option ℕ) → (if b then Some n else y) ≡ or_first (if b then Some n else None) y
under_one true n y = refl
under_one false n y = refl

under_target : (b : Bool) (t : Target) (y z : Option Target) → (if b then Some t else or_first y z) ≡ or_first (if b then Some t else y) z
under_target true t y z = refl
under_target false t y z = refl

under_targets : (x : Symbol) (e n : ℕ) (ys : List Symbol) (zs : List (Symbol × Target)) → under x (targets e n ys ++ zs) ≡ or_first (target_among x e n ys) (under x zs)
under_targets x e n [] zs = refl
under_targets x e n (y ∷ ys) zs =
    ap (λ r. if same_symbol x y then Some (record { exit = e; segment = n }) else r) (under_targets x e (n + 1) ys zs)
    ∙ under_target (same_symbol x y) (record { exit = e; segment = n }) (target_among x e (n + 1) ys) (under x zs)

-- of one thing that is bound

one_variable : (x : Symbol) (b : Bound) (s : Spaces) → under x (with_one b s).variables ≡ or_first (as_variable x b) (under x s.variables)
one_variable x (Variable y v) s = under_one (same_symbol x y) v (under x s.variables)
one_variable x (Function y v) s = refl
one_variable x (Block y e) s = refl
one_variable x (Tags ys e) s = refl

one_function : (x : Symbol) (b : Bound) (s : Spaces) → under x (with_one b s).functions ≡ or_first (as_function x b) (under x s.functions)
one_function x (Variable y v) s = refl
one_function x (Function y v) s = under_one (same_symbol x y) v (under x s.functions)
one_function x (Block y e) s = refl
one_function x (Tags ys e) s = refl

one_block : (x : Symbol) (b : Bound) (s : Spaces) → under x (with_one b s).blocks ≡ or_first (as_block x b) (under x s.blocks)
one_block x (Variable y v) s = refl
one_block x (Function y v) s = refl
one_block x (Block y e) s = under_one (same_symbol x y) e (under x s.blocks)
one_block x (Tags ys e) s = refl

one_tag : (x : Symbol) (b : Bound) (s : Spaces) → under x (with_one b s).tags ≡ or_first (as_tag x b) (under x s.tags)
one_tag x (Variable y v) s = refl
one_tag x (Function y v) s = refl
one_tag x (Block y e) s = refl
one_tag x (Tags ys e) s = under_targets x e 1 ys s.tags

-- and so of all

module _ {X : Type 0} (space : Spaces → List (Symbol × X)) (says : Symbol → Bound → Option X)
    (one : (x : Symbol) (b : Bound) (s : Spaces) → under x (space (with_one b s)) ≡ or_first (says x b) (under x (space s))) where
  all_found : (x : Symbol) (bs : List Bound) (s : Spaces) → under x (space (with_all bs s)) ≡ or_first (innermost (says x) bs) (under x (space s))
  all_found x [] s = refl
  all_found x (b ∷ bs) s =
      all_found x bs (with_one b s)
      ∙ ap (or_first (innermost (says x) bs)) (one x b s)
      ∙ sym (first_twice (innermost (says x) bs) (says x b) (under x (space s)))

pub variable_found : (x : Symbol) (bs : List Bound) → under x (spaces_of bs).variables ≡ variable_of bs x
variable_found x bs = all_found (λ s. s.variables) as_variable one_variable x bs no_names ∙ first_none (variable_of bs x)

pub function_found : (x : Symbol) (bs : List Bound) → under x (spaces_of bs).functions ≡ function_of bs x
function_found x bs = all_found (λ s. s.functions) as_function one_function x bs no_names ∙ first_none (function_of bs x)

pub block_found : (x : Symbol) (bs : List Bound) → under x (spaces_of bs).blocks ≡ block_of bs x
block_found x bs = all_found (λ s. s.blocks) as_block one_block x bs no_names ∙ first_none (block_of bs x)

pub tag_found : (x : Symbol) (bs : List Bound) → under x (spaces_of bs).tags ≡ tag_of bs x
tag_found x bs = all_found (λ s. s.tags) as_tag one_tag x bs no_names ∙ first_none (tag_of bs x)

-- more things are bound, and the last one less

pub with_more : (xs ys : List Bound) (s : Spaces) → with_all (xs ++ ys) s ≡ with_all ys (with_all xs s)
with_more [] ys s = refl
with_more (x ∷ xs) ys s = with_more xs ys (with_one x s)

-- as many symbols as tags

pub as_many_targets : (e n : ℕ) (ys : List Symbol) → length (targets e n ys) ≡ length ys
as_many_targets e n [] = refl
as_many_targets e n (y ∷ ys) = ap suc (as_many_targets e (n + 1) ys)

pub behind_targets : (e n : ℕ) (ys : List Symbol) (zs : List (Symbol × Target)) → drop (length ys) (targets e n ys ++ zs) ≡ zs
behind_targets e n [] zs = refl
behind_targets e n (y ∷ ys) zs = behind_targets e (n + 1) ys zs

-- a tag in front of those behind it

pub front_target : (e : ℕ) (ys : List Symbol) (n k m : ℕ) (d : Symbol) (ns more start : List (Symbol × Target)) → n ≡ k + 1 → m ≡ k → k < length ys
    → more ≡ (slice_index_or ys m d, record { exit = e; segment = n }) ∷ ns → ns ≡ targets e (n + 1) (drop n ys) ++ start
    → more ≡ targets e (k + 1) (drop k ys) ++ start
front_target e ys n k m d ns more start hn hm lt is was =
    is ∙ ap (λ p. (slice_index_or ys p d, record { exit = e; segment = n }) ∷ ns) hm
    ∙ ap (λ p. (slice_index_or ys k d, record { exit = e; segment = p }) ∷ ns) hn
    ∙ ap (λ ts. (slice_index_or ys k d, record { exit = e; segment = k + 1 }) ∷ ts) (was ∙ ap (λ p. targets e (p + 1) (drop p ys) ++ start) hn)
    ∙ ap (λ q. (slice_index_or ys k d, record { exit = e; segment = k + 1 }) ∷ (targets e (k + 1 + 1) (drop q ys) ++ start)) (add-one k)
    ∙ ap (λ zs. targets e (k + 1) zs ++ start) (sym (drop-cons ys k d lt))

-- the last thing is taken away again

taken_away : (b : Bound) (s : Spaces) → without b (with_one b s) ≡ s
taken_away (Variable y v) s = refl
taken_away (Function y v) s = refl
taken_away (Block y e) s = refl
taken_away (Tags ys e) s = ap (λ ts. let t : Spaces = record s { tags = ts } in t) (behind_targets e 1 ys s.tags)

last_spaces : (bs : List Bound) (last : ℕ) (b : Bound) → last + 1 ≡ length bs → slice_get bs last ≡ Some b → spaces_of bs ≡ with_one b (spaces_of (take last bs))
last_spaces bs last b h is =
    ap spaces_of (sym (take_all (last + 1) bs (omega (arith, h))) ∙ take_at bs last b is) ∙ with_more (take last bs) (b ∷ []) no_names

pub last_bound : (bs : List Bound) (s : Spaces) (last : ℕ) (b : Bound) → last + 1 ≡ length bs → slice_get bs last ≡ Some b → s ≡ spaces_of bs → s ≡ with_one b (without b s)
last_bound bs s last b h is same =
    let now = same ∙ last_spaces bs last b h is in
    now ∙ ap (with_one b) (sym (ap (without b) now ∙ taken_away b (spaces_of (take last bs))))

pub last_gone : (bs : List Bound) (s now : Spaces) (last : ℕ) (b : Bound) → last + 1 ≡ length bs → slice_get bs last ≡ Some b → s ≡ spaces_of bs → now ≡ without b s
    → now ≡ spaces_of (take last bs)
last_gone bs s now last b h is same gone = gone ∙ ap (without b) (same ∙ last_spaces bs last b h is) ∙ taken_away b (spaces_of (take last bs))
