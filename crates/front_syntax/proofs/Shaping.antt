-- The lengths of segments and the variables of a lambda list, a datum at a time.
use Rattle.std.proofs.Common.{◌≡◌, ◌≢◌, ◌<◌, ◌≤◌, length, ◌+◌, ◌-◌, ◌++◌, List, [], ◌∷◌, refl, arith, ap, sym, ◌∙◌, take, drop, length-drop}
use Rattle.std.specs.Prelude.{ℕ, zero, suc, slice_index_or, Bool, true, false, Option, Some, None, if◌then◌else◌}
use Rattle.std.proofs.lemmas.List.{append_assoc as assoc, append-nil, drop_all, take_all}
use Rattle.base.specs.declared.datum.Symbol.{Symbol}
use Rattle.base.specs.Data.{Item}
use Rattle.front_profile.specs.declared.tables.ReservedWords.{ReservedWords}
use Rattle.front_profile.specs.declared.parameters.Parameters.{Parameters}
use Rattle.front_profile.specs.Shapes.{symbol_of, before, one_longer, lengths_in, with_required, maybe_required, is_rest_word, parameter_in, behind_rest, parameters_of}
use Rattle.front_syntax.specs.Behind.{longer_by, parameters_behind}

some_segment : (d : Option Symbol) (ns : List ℕ) → before d ns ≢ []
some_segment None [] = λ e. absurd (cc)
some_segment None (n ∷ ns) = λ e. absurd (cc)
some_segment (Some x) ns = λ e. absurd (cc)

lengths_there : (ds : List Item) → lengths_in ds ≢ []
lengths_there [] = λ e. absurd (cc)
lengths_there (d ∷ ds) = some_segment (symbol_of d) (lengths_in ds)

longer : (n : ℕ) (ns : List ℕ) → ns ≢ [] → longer_by (n + 1) ns ≡ longer_by n (one_longer ns)
longer n [] h = absurd (h refl)
longer n (m ∷ ms) h = ap (λ k. k ∷ ms) (omega arith)

by_form : (n : ℕ) (d : Option Symbol) (ns : List ℕ) → d ≡ None → ns ≢ [] → longer_by (n + 1) ns ≡ longer_by n (before d ns)
by_form n None ns e h = longer n ns h
by_form n (Some x) ns e h = absurd (cc)

-- a form is one more in the first segment
pub at_form : (n : ℕ) (d : Item) (ds : List Item) → symbol_of d ≡ None → longer_by (n + 1) (lengths_in ds) ≡ longer_by n (lengths_in (d ∷ ds))
at_form n d ds e = by_form n (symbol_of d) (lengths_in ds) e (lengths_there ds)

no_longer : (ns : List ℕ) → longer_by 0 ns ≡ ns
no_longer [] = refl
no_longer (n ∷ ns) = ap (λ k. k ∷ ns) (omega arith)

by_tag : (n : ℕ) (d : Option Symbol) (x : Symbol) (ns : List ℕ) → d ≡ Some x → n ∷ longer_by 0 ns ≡ longer_by n (before d ns)
by_tag n None x ns e = absurd (cc)
by_tag n (Some y) x ns e = let zero_more : n + 0 ≡ n = omega arith in cc (no_longer ns, zero_more)

-- a tag begins a segment
pub at_tag : (n : ℕ) (d : Item) (x : Symbol) (ds : List Item) → symbol_of d ≡ Some x → n ∷ longer_by 0 (lengths_in ds) ≡ longer_by n (lengths_in (d ∷ ds))
at_tag n d x ds e = by_tag n (symbol_of d) x (lengths_in ds) e

-- the rest from an item on
pub drop_seen : (ds : List Item) (i : ℕ) (d : Item) → i < length ds → d ≡ slice_index_or ds i d → drop i ds ≡ d ∷ drop (i + 1) ds
drop_seen [] i d l e = absurd (omega arith)
drop_seen (x ∷ xs) zero d l e = let same : x ≡ d = cc in ap (λ y. y ∷ xs) same
drop_seen (x ∷ xs) (suc i) d l e =
    let s : suc i + 1 ≡ suc (i + 1) = omega arith in
    let below : i < length xs = omega arith in
    rw s (drop_seen xs i d below e)

-- a datum more was seen, behind the segments that were seen

pub form_turn : (ds : List Item) (i : ℕ) (d : Item) (xs all : List ℕ) (n : ℕ) → drop i ds ≡ d ∷ drop (i + 1) ds → symbol_of d ≡ None →
    xs ++ longer_by n (lengths_in (drop i ds)) ≡ all → xs ++ longer_by (n + 1) (lengths_in (drop (i + 1) ds)) ≡ all
form_turn ds i d xs all n now f g =
    let more : longer_by (n + 1) (lengths_in (drop (i + 1) ds)) ≡ longer_by n (lengths_in (d ∷ drop (i + 1) ds)) = at_form n d (drop (i + 1) ds) f in
    ap (λ ns. xs ++ ns) more ∙ (ap (λ es. xs ++ longer_by n (lengths_in es)) (sym now) ∙ g)

pub tag_turn : (ds : List Item) (i : ℕ) (d : Item) (x : Symbol) (xs all : List ℕ) (n : ℕ) → drop i ds ≡ d ∷ drop (i + 1) ds → symbol_of d ≡ Some x →
    xs ++ longer_by n (lengths_in (drop i ds)) ≡ all → (xs ++ n ∷ []) ++ longer_by 0 (lengths_in (drop (i + 1) ds)) ≡ all
tag_turn ds i d x xs all n now f g =
    let more : n ∷ longer_by 0 (lengths_in (drop (i + 1) ds)) ≡ longer_by n (lengths_in (d ∷ drop (i + 1) ds)) = at_tag n d x (drop (i + 1) ds) f in
    assoc xs (n ∷ []) (longer_by 0 (lengths_in (drop (i + 1) ds)))
    ∙ (ap (λ ns. xs ++ ns) more ∙ (ap (λ es. xs ++ longer_by n (lengths_in es)) (sym now) ∙ g))

-- a required variable more

more_required : (w : ReservedWords) (xs : List Symbol) (x : Symbol) (ps : Option Parameters) →
    parameters_behind (xs ++ x ∷ []) ps ≡ parameters_behind xs (with_required x ps)
more_required w xs x None = refl
more_required w xs x (Some ps) = let e : (xs ++ x ∷ []) ++ ps.required ≡ xs ++ (x ∷ ps.required) = assoc xs (x ∷ []) ps.required in cc

by_word : (w : ReservedWords) (xs : List Symbol) (x : Symbol) (word : Bool) (y : Option Symbol) (ps rest : Option Parameters) → word ≡ false → y ≡ Some x →
    parameters_behind (xs ++ x ∷ []) ps ≡ parameters_behind xs (if word then rest else maybe_required y ps)
by_word w xs x true y ps rest e f = absurd (cc)
by_word w xs x false None ps rest e f = absurd (cc)
by_word w xs x false (Some z) ps rest e f = let same : z ≡ x = cc in rw same (more_required w xs x ps)

pub required_turn : (w : ReservedWords) (ds : List Item) (i : ℕ) (d : Item) (x : Symbol) (xs : List Symbol) (all : Option Parameters) →
    drop i ds ≡ d ∷ drop (i + 1) ds → is_rest_word w (symbol_of d) ≡ false → parameter_in w (symbol_of d) ≡ Some x →
    parameters_behind xs (parameters_of w (drop i ds)) ≡ all → parameters_behind (xs ++ x ∷ []) (parameters_of w (drop (i + 1) ds)) ≡ all
required_turn w ds i d x xs all now f g h =
    by_word w xs x (is_rest_word w (symbol_of d)) (parameter_in w (symbol_of d)) (parameters_of w (drop (i + 1) ds)) (behind_rest w (drop (i + 1) ds)) f g
    ∙ (ap (λ es. parameters_behind xs (parameters_of w es)) (sym now) ∙ h)

-- what stands behind an item, as the code takes it
pub rest_from : (ds : List Item) (k : ℕ) → take (length ds - k) (drop k ds) ≡ drop k ds
rest_from ds k = let all : length (drop k ds) ≤ length ds - k = omega (arith, length-drop k ds) in take_all (length ds - k) (drop k ds) all

-- the word of a rest variable and what stands behind it, a datum that is no variable, and the end

pub required_rest : (w : ReservedWords) (ds : List Item) (i : ℕ) (d : Item) (xs : List Symbol) (y : Option Parameters) (all : Option Parameters) →
    drop i ds ≡ d ∷ drop (i + 1) ds → is_rest_word w (symbol_of d) ≡ true → y ≡ behind_rest w (take (length ds - (i + 1)) (drop (i + 1) ds)) →
    parameters_behind xs (parameters_of w (drop i ds)) ≡ all → parameters_behind xs y ≡ all
required_rest w ds i d xs y all now f g h =
    let there : parameters_of w (drop i ds) ≡ behind_rest w (drop (i + 1) ds) = ap (parameters_of w) now ∙ rw f refl in
    ap (parameters_behind xs) (g ∙ ap (behind_rest w) (rest_from ds (i + 1)) ∙ sym there) ∙ h

pub required_none : (w : ReservedWords) (ds : List Item) (i : ℕ) (d : Item) (xs : List Symbol) (all : Option Parameters) →
    drop i ds ≡ d ∷ drop (i + 1) ds → is_rest_word w (symbol_of d) ≡ false → parameter_in w (symbol_of d) ≡ None →
    parameters_behind xs (parameters_of w (drop i ds)) ≡ all → None ≡ all
required_none w ds i d xs all now f g h =
    let there : parameters_of w (drop i ds) ≡ None = ap (parameters_of w) now ∙ rw (f, g) refl in
    ap (parameters_behind xs) (sym there) ∙ h

pub required_end : (w : ReservedWords) (ds : List Item) (i : ℕ) (xs : List Symbol) (all : Option Parameters) → length ds ≤ i →
    parameters_behind xs (parameters_of w (drop i ds)) ≡ all → parameters_behind xs (Some (record { required = []; rest = None })) ≡ all
required_end w ds i xs all l h = ap (λ es. parameters_behind xs (parameters_of w es)) (sym (drop_all i ds l)) ∙ h

-- no variables more
pub none_more : (xs : List Symbol) (rest : Option Symbol) (all : Option Parameters)
    → parameters_behind xs (Some (record { required = []; rest = rest })) ≡ all → Some (record { required = xs; rest = rest }) ≡ all
none_more xs rest all h =
    let made : List Symbol → Option Parameters = λ ys. Some (record { required = ys; rest = rest }) in
    ap made (sym (append-nil xs)) ∙ h
