-- Looking for the innermost binding of a name, one frame after another.
use Rattle.std.proofs.Common.{◌≡◌, ℕ, suc, ◌+◌, Bool, true, false, List, [], ◌∷◌, ◌++◌, Option, Some, None, refl, ap, sym, ◌∙◌, subst, length, drop, arith}
use Rattle.std.specs.Prelude.{reverse, slice_get, option_map, is_some, if◌then◌else◌}
use Rattle.std.proofs.lemmas.List.{drop_all}
use Rattle.base.specs.model.DataRest.{rest_at}
use Rattle.lang_meaning.specs.Lookup.{text, passed}
use Rattle.flat_language.specs.declared.flat_core.FlatDynBinding.{FlatDynBinding}
use Rattle.flat_language.specs.FlatState.{charged}
use Rattle.flat_language.specs.model.View.{dynamics_of}
use Rattle.eval_machine.specs.Configuration.{first_that}
use Rattle.eval_store.specs.Spelling.{IsSpelling}
use Rattle.eval_state.specs.declared.frame.ContinuationFrame.{ContinuationFrame}
use Rattle.eval_state.specs.declared.frame.ContinuationFrame.TheVariants as frame
use Rattle.eval_state.specs.declared.links.LinkKind.TheVariants.{Bindings}
use Rattle.eval_state.specs.declared.machine.Machine.{Machine}
use Rattle.eval_state.specs.Chains.{Linking, chained}
use Rattle.eval_state.specs.Frames.{binding_link}
use Rattle.eval_state.specs.Links.{next_of, IsNoneNearer, IsNearest}
use Rattle.eval_state.specs.View.{IsCharged, state}
use Rattle.eval_state.proofs.Givens.{spelling}
use Rattle.eval_state.proofs.Following.{AreLinked, none_further, one_further}
use Rattle.eval_control.specs.declared.bound.FoundBinding.{FoundBinding}
use Rattle.eval_control.proofs.Searching.{IsSearching, search_begins, search_goes, search_found, search_ends}
use Rattle.eval_control.specs.Bindings.{is_named, bindings_in, IsBound, IsThere, IsNowhere, IsBoundBy, IsBindingFound}

-- the bindings are those of frames that link bindings
binding_next : (names : List (List ℕ)) (w : ContinuationFrame) → next_of Bindings w ≡ option_map (λ (l : Linking (List ℕ × ℕ)). l.next) (binding_link names w)
binding_next names (frame.Binds bs n m) = refl
binding_next names w = refl

pub bindings_linked : (names : List (List ℕ)) → AreLinked Bindings (binding_link names)
bindings_linked names = record { next_is = binding_next names }

-- in a list: how far it was searched
abbrev pub IsSought : List (List ℕ) → ℕ → List FlatDynBinding → ℕ → Type 0
IsSought names n bs at = (first : ℕ)
    → IsSearching (is_named names n) (bindings_in names (dynamics_of bs) first) (bindings_in names (dynamics_of (drop at bs)) (first + at)) at

pub seeking_begins : (names : List (List ℕ)) (n : ℕ) (bs : List FlatDynBinding) → IsSought names n bs 0
seeking_begins names n bs first =
    let same : first ≡ first + 0 = omega arith in
    subst (λ k. IsSearching (is_named names n) (bindings_in names (dynamics_of bs) first) (bindings_in names (dynamics_of bs) k) 0) same
    (search_begins (is_named names n) (bindings_in names (dynamics_of bs) first))

module _
    (names : List (List ℕ)) (n : ℕ) (bs : List FlatDynBinding) (at : ℕ) (b : FlatDynBinding) (there : slice_get bs at ≡ Some b)
    (sought : IsSought names n bs at)
  where
    -- what is left, where the variables have numbers from that one on
    abbrev from : (at first : ℕ) → List (List ℕ × ℕ)
    from k first = bindings_in names (dynamics_of (drop k bs)) (first + k)

    -- it begins with the binding
    begins_with : (first : ℕ) → from at first ≡ (text names b.name.0, first + at) ∷ from (at + 1) first
    begins_with first =
        ap (λ xs. bindings_in names (dynamics_of xs) (first + at)) (rest_at bs at b there)
        ∙ ap (λ k. (text names b.name.0, first + at) ∷ bindings_in names (dynamics_of (drop (at + 1) bs)) k)
        (let e : first + at + 1 ≡ first + (at + 1) = omega arith in e)

    abbrev one : (first : ℕ) → List (List ℕ × ℕ)
    one first = (text names b.name.0, first + at) ∷ []

    -- whether it is of the name or not, one is passed
    one_more : (t : Bool) (first : ℕ) → is_named names n (text names b.name.0, 0) ≡ t → at + 1 ≡ at + passed (is_named names n) (one first)
    one_more true first h = ap (λ t. at + (if t then 1 else 1 + 0)) (sym h)
    one_more false first h = ap (λ t. at + (if t then 1 else 1 + 0)) (sym h)

    -- a binding of another name
    pub seeking_goes : is_named names n (text names b.name.0, 0) ≡ false → IsSought names n bs (at + 1)
    seeking_goes other first =
        search_goes (is_named names n) (bindings_in names (dynamics_of bs) first) (from at first) (one first) (from (at + 1) first) at (at + 1)
        (begins_with first) (ap (λ t. if t then Some (text names b.name.0, first + at) else None) other) (one_more false first other) (sought first)

    -- one of the name
    pub is_there : is_named names n (text names b.name.0, 0) ≡ true → IsThere names n bs at
    is_there this =
        let found = λ (first : ℕ). search_found (is_named names n) (text names b.name.0, first + at) (bindings_in names (dynamics_of bs) first)
        (from at first) (one first) (from (at + 1) first) at (at + 1)
        (begins_with first) (ap (λ t. if t then Some (text names b.name.0, first + at) else None) this) (one_more true first this) (sought first) in
        record {
          variable = λ first. ap (option_map (λ (x : List ℕ × ℕ). x.1)) (found first).0;
          passed_so_many = λ first. let more : suc at ≡ at + 1 = omega arith in sym (more ∙ (found first).1);
        }

-- none is left
pub is_nowhere : (names : List (List ℕ)) (n : ℕ) (bs : List FlatDynBinding) (at : ℕ) → at ≡ length bs → IsSought names n bs at → IsNowhere names n bs
is_nowhere names n bs at e sought =
    let none : drop at bs ≡ [] = drop_all at bs (omega arith) in
    let ended = λ (first : ℕ). search_ends (is_named names n) (bindings_in names (dynamics_of bs) first)
    (bindings_in names (dynamics_of (drop at bs)) (first + at)) at
    (ap (λ xs. bindings_in names (dynamics_of xs) (first + at)) none) (sought first) in
    record {
      variable = λ first. ap (option_map (λ (x : List ℕ × ℕ). x.1)) (ended first).0;
      passed_so_many = λ first. sym (ended first).1 ∙ e;
    }

-- in frames: how far they were searched
abbrev pub around_from : List (List ℕ) → List ContinuationFrame → ℕ → List (List ℕ × ℕ)
around_from names items link = chained (binding_link names) (reverse items) link

abbrev pub IsSeeking : List (List ℕ) → ℕ → List ContinuationFrame → (link left count : ℕ) → Type 0
IsSeeking names n items link left count = IsSearching (is_named names n) (around_from names items link) (around_from names items left) count

pub frames_begin : (names : List (List ℕ)) (n : ℕ) (items : List ContinuationFrame) (link : ℕ) → IsSeeking names n items link link 0
frames_begin names n items link = search_begins (is_named names n) (around_from names items link)

-- the bindings of the nearest frame, and those behind it
nearest_bindings : (names : List (List ℕ)) (n : ℕ) (items : List ContinuationFrame) (left behind : ℕ) (w : ContinuationFrame) (here : FoundBinding)
    → IsNearest Bindings items left w behind → IsBoundBy names n w here
    → (xs : List (List ℕ × ℕ)) × (around_from names items left ≡ xs ++ around_from names items behind) × IsBound names n xs here
nearest_bindings names n items left behind w here near bound = by (binding_link names w) refl
  where
    by : (o : Option (Linking (List ℕ × ℕ))) → binding_link names w ≡ o
        → (xs : List (List ℕ × ℕ)) × (around_from names items left ≡ xs ++ around_from names items behind) × IsBound names n xs here
    by None e =
        let links : next_of Bindings w ≡ Some near.next = near.links in
        let none : next_of Bindings w ≡ None = binding_next names w ∙ ap (option_map (λ (l : Linking (List ℕ × ℕ)). l.next)) e in
        absurd (cc)
    by (Some l) e = (
      l.items,
      one_further Bindings (binding_link names) items left behind w l.items (bindings_linked names) near
          (ap (option_map (λ (l : Linking (List ℕ × ℕ)). l.items)) e),
      bound.bound_by l e,
    )

-- what was found, by its variable
no_variable : (o : Option (List ℕ × ℕ)) → option_map (λ (x : List ℕ × ℕ). x.1) o ≡ None → o ≡ None
no_variable None e = refl
no_variable (Some x) e = absurd (cc)

with_variable : (o : Option (List ℕ × ℕ)) (v : ℕ) → option_map (λ (x : List ℕ × ℕ). x.1) o ≡ Some v → (x : List ℕ × ℕ) × (o ≡ Some x) × (x.1 ≡ v)
with_variable None v e = absurd (cc)
with_variable (Some x) v e = (x, refl, cc)

pub frames_go : (names : List (List ℕ)) (n : ℕ) (items : List ContinuationFrame) (link left behind count more : ℕ) (w : ContinuationFrame) (here : FoundBinding)
    → more ≡ count + here.passed → here.variable ≡ None → IsSeeking names n items link left count → IsNearest Bindings items left w behind
    → IsBoundBy names n w here
    → IsSeeking names n items link behind more
frames_go names n items link left behind count more w here e none s near bound =
    let (xs, there, is) = nearest_bindings names n items left behind w here near bound in
    search_goes (is_named names n) (around_from names items link) (around_from names items left) xs (around_from names items behind) count more
    there (no_variable (first_that (is_named names n) xs) (is.variable ∙ none)) (e ∙ ap (λ k. count + k) is.passed_so_many) s

pub frames_found : (names : List (List ℕ)) (n : ℕ) (items : List ContinuationFrame) (link left behind count more v : ℕ) (w : ContinuationFrame) (here : FoundBinding)
    → more ≡ count + here.passed → here.variable ≡ Some v → IsSeeking names n items link left count → IsNearest Bindings items left w behind
    → IsBoundBy names n w here
    → IsBound names n (around_from names items link) (record { variable = here.variable; passed = more })
frames_found names n items link left behind count more v w here e some s near bound =
    let (xs, there, is) = nearest_bindings names n items left behind w here near bound in
    let (x, one, number) = with_variable (first_that (is_named names n) xs) v (is.variable ∙ some) in
    let found = search_found (is_named names n) x (around_from names items link) (around_from names items left) xs (around_from names items behind) count more
    there one (e ∙ ap (λ k. count + k) is.passed_so_many) s in
    record {
      variable = ap (option_map (λ (y : List ℕ × ℕ). y.1)) found.0 ∙ ap (λ k. Some k) number ∙ sym some;
      passed_so_many = found.1;
    }

pub frames_end : (names : List (List ℕ)) (n : ℕ) (items : List ContinuationFrame) (link left count : ℕ) → IsSeeking names n items link left count
    → IsNoneNearer Bindings items 0 left
    → IsBound names n (around_from names items link) (record { variable = None; passed = count })
frames_end names n items link left count s none =
    let ended = search_ends (is_named names n) (around_from names items link) (around_from names items left) count
    (none_further Bindings (binding_link names) items left (bindings_linked names) none) s in
    record { variable = ap (option_map (λ (x : List ℕ × ℕ). x.1)) ended.0; passed_so_many = ended.1 }

-- whether one was found
pub some_there : {X : Type 0} (o : Option X) → is_some o ≡ true → (x : X) × (o ≡ Some x)
some_there (Some x) e = (x, refl)
some_there None e = absurd (cc)

pub none_there : {X : Type 0} (o : Option X) → is_some o ≡ false → o ≡ None
none_there (Some x) e = absurd (cc)
none_there None e = refl

-- those that were passed are counted
pub binding_counted : (old new : Machine) (n link : ℕ) (bound : FoundBinding)
    → ((names : List (List ℕ)) → IsSpelling names old.given.spellings → IsBound names n (around_from names old.frames.items link) bound)
    → IsCharged old new bound.passed
    → IsBindingFound old new n link bound.variable
binding_counted old new n link bound is c = record {
  same = c.same;
  found = λ names g. (is names (spelling names old.given g)).variable;
  counted = λ names b g. c.state_is names b ∙ ap (λ k. charged k (state names old b)) (is names (spelling names old.given g)).passed_so_many;
}
