-- Forms that are right, by the forms right inside them: in later tables, in larger scopes, and where they are put together.
use Rattle.std.proofs.Common.{◌≡◌, ◌+◌, ◌≤◌, ◌<◌, ℕ, max, nat_le, nat_lt, if◌then◌else◌, Bool, true, false, List, [], ◌∷◌, map, length, refl, ◌∙◌, arith}
use Rattle.std.specs.List.{list_all}
use Rattle.std.proofs.lemmas.Bool.{leb-true, ltb-true, le-leb, lt-ltb}
use Rattle.std.proofs.lemmas.Bool.{and_parts, and_from}
use Rattle.base.specs.AllOf.{AllOf}
use Rattle.lang_meaning.specs.declared.program.ProgramRows.{ProgramRows}
use Rattle.lang_meaning.specs.declared.scope.LexicalScope.{LexicalScope}
use Rattle.lang_meaning.specs.Form.{Form, literal, sited}
use Rattle.lang_meaning.specs.Subforms.{outer, inner}
use Rattle.lang_meaning.specs.Inside.{inside_form}
use Rattle.lang_meaning.specs.Counts.{is_function, greatest, own_depth, depth}
use Rattle.lang_meaning.specs.Fits.{fits_itself, fits}
use Rattle.lang_meaning.specs.Standing.{around_inner, stands_itself, stands}
use Rattle.lang_meaning.specs.bridge.Walks.{folded}
use Rattle.lang_meaning.specs.bridge.Judged.{fits_folded, stands_folded}
use Rattle.front_profile.specs.Scopes.{ScopeWithin}
use Rattle.front_profile.specs.Definitions.{Definitions, rows_of, Later}
use Rattle.front_profile.specs.Right.{RightIn}
use Rattle.front_profile.proofs.Tests.{all_more}
use Rattle.front_profile.proofs.Enough.{stands_within}

-- ids in range stay so

below_later : (i m n : ℕ) → m ≤ n → nat_lt i m ≡ true → nat_lt i n ≡ true
below_later i m n l h = let e : i < m = ltb-true i m h in lt-ltb i n (omega arith)

up_to_later : (i m n : ℕ) → m ≤ n → nat_le i m ≡ true → nat_le i n ≡ true
up_to_later i m n l h = let e : i ≤ m = leb-true i m h in le-leb i n (omega arith)

itself_later : (r q : ProgramRows) → length r.literals ≤ length q.literals → length r.sites ≤ length q.sites → (f : Form)
    → fits_itself r f ≡ true → fits_itself q f ≡ true
itself_later r q l s (literal i) h = below_later i _ _ l h
itself_later r q l s (sited site f) h =
    let e : (nat_le 1 site ≡ true) × (nat_le site (length r.sites) ≡ true) = and_parts _ _ h in
    and_from _ _ e.0 (up_to_later site _ _ s e.1)
itself_later r q l s f h = h

pub fits_later : (r q : ProgramRows) → length r.literals ≤ length q.literals → length r.sites ≤ length q.sites → (f : Form)
    → fits r f ≡ true → fits q f ≡ true
fits_later r q l s f h = all_more (fits_itself r) (fits_itself q) (itself_later r q l s) (inside_form f) h

pub right_later : (g h : Definitions) (s : LexicalScope) (n : ℕ) (f : Form) → Later g h → RightIn g s n f → RightIn h s n f
right_later g h s n f l r = record {
  stands = r.stands;
  fits = fits_later (rows_of g) (rows_of h) l.literals l.sites f r.fits;
  deep = r.deep;
}

pub right_within : (g : Definitions) (s t : LexicalScope) (n : ℕ) (f : Form) → ScopeWithin s t → RightIn g s n f → RightIn g t n f
right_within g s t n f w r = record { stands = stands_within s t f w r.stands; fits = r.fits; deep = r.deep }

pub right_less : (g : Definitions) (s : LexicalScope) (m n : ℕ) (f : Form) → m ≤ n → RightIn g s n f → RightIn g s m f
right_less g s m n f l r = record { stands = r.stands; fits = r.fits; deep = omega (arith, r.deep) }

-- forms together

all_stand : (g : Definitions) (s : LexicalScope) (n : ℕ) (fs : List Form) → AllOf (RightIn g s n) fs → list_all (stands s) fs ≡ true
all_stand g s n [] e = refl
all_stand g s n (f ∷ fs) e = and_from _ _ e.0.stands (all_stand g s n fs e.1)

all_fit : (g : Definitions) (s : LexicalScope) (n : ℕ) (fs : List Form) → AllOf (RightIn g s n) fs → list_all (fits (rows_of g)) fs ≡ true
all_fit g s n [] e = refl
all_fit g s n (f ∷ fs) e = and_from _ _ e.0.fits (all_fit g s n fs e.1)

pub all_deep : (g : Definitions) (s : LexicalScope) (n : ℕ) (fs : List Form) → n ≤ 1000 → AllOf (RightIn g s n) fs → greatest (map depth fs) + n ≤ 1000
all_deep g s n [] l e = omega arith
all_deep g s n (f ∷ fs) l e = omega (arith, e.0.deep, all_deep g s n fs l e.1)

pub depth_folded : (f : Form) → depth f ≡ max (greatest (map depth (outer f))) (if is_function f then 0 else greatest (map depth (inner f))) + own_depth f
depth_folded f = folded (λ g outer inner. max (greatest outer) (if is_function g then 0 else greatest inner) + own_depth g) f

deep_enough : (d a b o n : ℕ) (function : Bool) → d ≡ max a (if function then 0 else b) + o → o ≡ 1 → function ≡ false
    → a + (n + 1) ≤ 1000 → b + (n + 1) ≤ 1000 → d + n ≤ 1000
deep_enough d a b o n true e p q k l = absurd (cc q)
deep_enough d a b o n false e p q k l = omega arith

-- a form that is no function and no site is right where the forms right inside it are
pub right_whole : (g : Definitions) (s : LexicalScope) (n : ℕ) (f : Form) → own_depth f ≡ 1 → is_function f ≡ false → n + 1 ≤ 1000
    → stands_itself s f ≡ true → fits_itself (rows_of g) f ≡ true
    → AllOf (RightIn g s (n + 1)) (outer f) → AllOf (RightIn g (around_inner f s) (n + 1)) (inner f) → RightIn g s n f
right_whole g s n f own function l here fit os is = record {
  stands = stands_folded s f ∙ and_from _ _ (and_from _ _ here (all_stand g s (n + 1) (outer f) os)) (all_stand g (around_inner f s) (n + 1) (inner f) is);
  fits = fits_folded (rows_of g) f ∙ and_from _ _ (and_from _ _ fit (all_fit g s (n + 1) (outer f) os)) (all_fit g (around_inner f s) (n + 1) (inner f) is);
  deep = deep_enough (depth f) (greatest (map depth (outer f))) (greatest (map depth (inner f))) (own_depth f) n (is_function f)
      (depth_folded f) own function (all_deep g s (n + 1) (outer f) l os) (all_deep g (around_inner f s) (n + 1) (inner f) l is);
}

-- a form at a site that is there
pub right_sited : (g : Definitions) (s : LexicalScope) (n site : ℕ) (f : Form) → 1 ≤ site → site ≤ length g.sites → RightIn g s n f → RightIn g s n (sited site f)
right_sited g s n site f l k r = record {
  stands = stands_folded s (sited site f) ∙ and_from _ _ (and_from _ _ refl (and_from _ _ r.stands refl)) refl;
  fits = fits_folded (rows_of g) (sited site f)
      ∙ and_from _ _ (and_from _ _ (and_from _ _ (le-leb 1 site l) (le-leb site (length g.sites) k)) (and_from _ _ r.fits refl)) refl;
  deep = deep_site (depth f) (depth (sited site f)) n (depth_folded (sited site f)) r.deep;
}
  where
    deep_site : (d e n : ℕ) → e ≡ max (max d 0) 0 + 0 → d + n ≤ 1000 → e + n ≤ 1000
    deep_site d e n h k = omega arith
