-- Names that definitions ask for, once they were added to the table of names: no later table lacks them.
use Rattle.std.proofs.Common.{arith, ◌≤◌, ◌-◌, take, get_or, ◌≡◌, ◌<◌, ℕ, ◌+◌, nat_le, Bool, true, false, ◌||◌, List, [], ◌∷◌, ◌++◌, Option, Some, None, if◌then◌else◌, length, refl, sym, ap, subst, ◌∙◌, drop}
use Rattle.std.proofs.Common.{Result, Ok, Err, OnOk}
use Rattle.std.specs.Prelude.{zero, suc, is_some, option_map, codes, slice_get, flat_map}
use Rattle.std.specs.List.{list_any}
use Rattle.std.specs.Str.{bytes_eq}
use Rattle.std.proofs.Math.Seq.{take-length}
use Rattle.std.proofs.lemmas.Slice.Eq.{bytes_eq-Decides}
use Rattle.base.specs.declared.place.Place.{Place}
use Rattle.base.specs.declared.datum.Name.{Name}
use Rattle.base.specs.declared.datum.Symbol.{Symbol}
use Rattle.base.specs.declared.datum.Symbol.TheVariants.{Named, Fresh}
use Rattle.base.specs.Names.{Extends, Extends-same, Extends-then, slice_get-front}
use Rattle.base.specs.Data.{Item, item, integer, character, symbol, string, vector, nil, list, place_of}
use Rattle.base.specs.DataNames.{symbol_text}
use Rattle.base.specs.AllOf.{AllOf}
use Rattle.base.specs.WellFormedData.{WellFormed, all_good_stay}
use Rattle.lang_derived.specs.Asked.{list_items, is_word, setf_text}
use Rattle.front_profile.specs.declared.special.Special.{Special}
use Rattle.front_profile.specs.declared.elaboration.Accessor.{Accessor}
use Rattle.front_profile.specs.declared.elaboration.Accessor.TheVariants.{Reads, Writes, Asks}
use Rattle.front_profile.specs.Shapes.{symbol_of, name_of}
use Rattle.front_profile.specs.GivenNames.{GivenName, no_name, unfit, lacking, given, number_of, in_table, longest_set, setter_of_text, setter_of_symbol, setter_in, named_by, given_name}
use Rattle.front_profile.specs.ClassShapes.{SlotOption, wrong_option, initform_of, initarg_by, method_by, accessor_with, accessor_by, slot_option, option_and, slot_options, WrittenSlot, name_in, slot_with, slot_in_list, slot_by, slot_and, each_slot, slots_in}
use Rattle.front_profile.specs.ClassRows.{Function, functions_of_option, functions_of, is_lacking}
use Rattle.front_profile.specs.Rows.{special_of}
use Rattle.front_profile.specs.bridge.WellFormedParts.{MaybeGood, good_parts}
use Rattle.front_profile.specs.bridge.LaterNames.{same_text, same_word}
use Rattle.front_syntax.specs.Lacking.{is_lacking_name, setter_lacks, name_lacks, asks_in, pair_lacks, list_lacks, datum_lacks, each_lacks, text_to_set, operator_in, behind_first, slots_behind, option_lacks, options_lack, slot_lacks, slots_lack, class_lacks, first_lacks, special_in, defines_class, defines_methods, headed_lacks, form_lacks, HasNames}

-- what follows of a promise on success
pub on_ok : {T E : Type 0} (r : Result T E) (P Q : Type 0) → (P → Q) → OnOk r P → OnOk r Q
on_ok (Ok x) P Q f h = f h
on_ok (Err x) P Q f h = tt

-- a text that is there has a number

some_by : (b : Bool) (o : Option ℕ) → b ≡ true → is_some (if b then Some 0 else option_map (λ n. n + 1) o) ≡ true
some_by true o h = refl
some_by false o h = absurd (cc)

some_behind : (b : Bool) (o : Option ℕ) → is_some o ≡ true → is_some (if b then Some 0 else option_map (λ n. n + 1) o) ≡ true
some_behind true o h = refl
some_behind false None h = absurd (cc)
some_behind false (Some n) h = refl

number_there : (ts : List (List ℕ)) (i : ℕ) (text : List ℕ) → slice_get ts i ≡ Some text → is_some (number_of ts text) ≡ true
number_there [] i text h = absurd (cc)
number_there (t ∷ ts) zero text h =
    let same : t ≡ text = cc in some_by (bytes_eq t text) (number_of ts text) ((bytes_eq-Decides t text).1 same)
number_there (t ∷ ts) (suc i) text h = some_behind (bytes_eq t text) (number_of ts text) (number_there ts i text h)

table_has : (n : Option ℕ) → is_some n ≡ true → is_lacking_name (in_table n) ≡ false
table_has None h = absurd (cc)
table_has (Some n) h = refl

-- the name `(setf s)` of a text

set_by : (ts : List (List ℕ)) (b : Bool) (made text : List ℕ) → (if b then Some made else None) ≡ Some text → is_some (number_of ts text) ≡ true
    → is_lacking_name (if b then in_table (number_of ts made) else unfit) ≡ false
set_by ts true made text h k =
    let same : text ≡ made = cc in table_has (number_of ts made) (subst (λ (t : List ℕ). is_some (number_of ts t) ≡ true) same k)
set_by ts false made text h k = refl

set_has : (ts : List (List ℕ)) (o : Option (List ℕ)) (text : List ℕ) → text_to_set o ≡ Some text → is_some (number_of ts text) ≡ true
    → is_lacking_name (setter_of_text ts o) ≡ false
set_has ts None text h k = refl
set_has ts (Some t) text h k = set_by ts (nat_le (length t) longest_set) (setf_text t) text h k

unset_by : (ts : List (List ℕ)) (b : Bool) (made : List ℕ) → (if b then Some made else None) ≡ None → is_lacking_name (if b then in_table (number_of ts made) else unfit) ≡ false
unset_by ts true made h = absurd (cc)
unset_by ts false made h = refl

unset_has : (ts : List (List ℕ)) (o : Option (List ℕ)) → text_to_set o ≡ None → is_lacking_name (setter_of_text ts o) ≡ false
unset_has ts None h = refl
unset_has ts (Some t) h = unset_by ts (nat_le (length t) longest_set) (setf_text t) h

-- of a symbol

symbol_same : (old later : List (List ℕ)) (d : Item) (x : Symbol) → symbol_of d ≡ Some x → Extends old later → WellFormed (length old) d → symbol_text old x ≡ symbol_text later x
symbol_same old later (item p (symbol y)) x h e g =
    let same : y ≡ x = cc in subst (λ z. symbol_text old z ≡ symbol_text later z) same (same_text old later (item p (symbol y)) e g)
symbol_same old later (item p (integer n)) x h e g = absurd (cc)
symbol_same old later (item p (character c)) x h e g = absurd (cc)
symbol_same old later (item p (string bytes)) x h e g = absurd (cc)
symbol_same old later (item p (vector ds)) x h e g = absurd (cc)
symbol_same old later (item p nil) x h e g = absurd (cc)
symbol_same old later (item p (list ds t)) x h e g = absurd (cc)

pub set_there : (old new : List (List ℕ)) (d : Item) (x : Symbol) (text : List ℕ) (i : ℕ) → WellFormed (length old) d → symbol_of d ≡ Some x → Extends old new
    → text_to_set (symbol_text old x) ≡ Some text → slice_get new i ≡ Some text → HasNames new (setter_lacks d)
set_there old new d x text i g h k t there = record { under = under }
  where
    under : (later : List (List ℕ)) → Extends new later → setter_lacks d later ≡ false
    under later e =
        let same : symbol_text old x ≡ symbol_text later x = symbol_same old later d x h (Extends-then old new later k e) g in
        let stays : slice_get later i ≡ Some text = subst (λ ts. slice_get ts i ≡ Some text) (sym e.begins) (slice_get-front new e.added i text there) in
        let has : is_lacking_name (setter_of_text later (symbol_text old x)) ≡ false = set_has later (symbol_text old x) text t (number_there later i text stays) in
        subst (λ (y : Option Symbol). is_lacking_name (setter_of_symbol later y) ≡ false) (sym h)
        (subst (λ (o : Option (List ℕ)). is_lacking_name (setter_of_text later o) ≡ false) same has)

pub none_set : (old : List (List ℕ)) (d : Item) (x : Symbol) → WellFormed (length old) d → symbol_of d ≡ Some x → text_to_set (symbol_text old x) ≡ None → HasNames old (setter_lacks d)
none_set old d x g h t = record { under = under }
  where
    under : (later : List (List ℕ)) → Extends old later → setter_lacks d later ≡ false
    under later e =
        let same : symbol_text old x ≡ symbol_text later x = symbol_same old later d x h e g in
        subst (λ (y : Option Symbol). is_lacking_name (setter_of_symbol later y) ≡ false) (sym h)
        (subst (λ (o : Option (List ℕ)). is_lacking_name (setter_of_text later o) ≡ false) same (unset_has later (symbol_text old x) t))

pub no_symbol : (names : List (List ℕ)) (d : Item) → symbol_of d ≡ None → HasNames names (setter_lacks d)
no_symbol names d h = record { under = λ later e. subst (λ (y : Option Symbol). is_lacking_name (setter_of_symbol later y) ≡ false) (sym h) refl }

-- of a list `(setf s)`

abbrev pub by_operator : List (List ℕ) → Option Item → GivenName
by_operator later None = no_name
by_operator later (Some d) = setter_of_symbol later (symbol_of d)

setter_by : (later : List (List ℕ)) (b : Bool) (d : Item) → (if b then setter_of_symbol later (symbol_of d) else no_name) ≡ by_operator later (if b then Some d else None)
setter_by later true d = refl
setter_by later false d = refl

pub setter_of_operator : (later : List (List ℕ)) (ds : Option (List Item)) → setter_in later ds ≡ by_operator later (operator_in later ds)
setter_of_operator later None = refl
setter_of_operator later (Some []) = refl
setter_of_operator later (Some (h ∷ [])) = refl
setter_of_operator later (Some (h ∷ d ∷ [])) = setter_by later (is_word later (codes "setf") h) d
setter_of_operator later (Some (h ∷ d ∷ e ∷ ds)) = refl

operator_same : (old later : List (List ℕ)) (ds : Option (List Item)) → Extends old later → MaybeGood (length old) ds → operator_in old ds ≡ operator_in later ds
operator_same old later None e g = refl
operator_same old later (Some []) e g = refl
operator_same old later (Some (h ∷ [])) e g = refl
operator_same old later (Some (h ∷ d ∷ [])) e g = ap (λ (b : Bool). if b then Some d else None) (same_word old later (codes "setf") h e g.0)
operator_same old later (Some (h ∷ d ∷ f ∷ ds)) e g = refl

abbrev pub MaybeItem : ℕ → Option Item → Type 0
MaybeItem n None = Unit {0}
MaybeItem n (Some d) = WellFormed n d

operator_if : (n : ℕ) (b : Bool) (d : Item) → WellFormed n d → MaybeItem n (if b then Some d else None)
operator_if n true d g = g
operator_if n false d g = tt

operator_in_good : (n : ℕ) (names : List (List ℕ)) (ds : Option (List Item)) → MaybeGood n ds → MaybeItem n (operator_in names ds)
operator_in_good n names None g = tt
operator_in_good n names (Some []) g = tt
operator_in_good n names (Some (h ∷ [])) g = tt
operator_in_good n names (Some (h ∷ d ∷ [])) g = operator_if n (is_word names (codes "setf") h) d g.1.0
operator_in_good n names (Some (h ∷ d ∷ e ∷ ds)) g = tt

pub operator_good : (n : ℕ) (names : List (List ℕ)) (d : Item) (o : Option Item) → WellFormed n d → o ≡ operator_in names (list_items d) → MaybeItem n o
operator_good n names d o g h = subst (MaybeItem n) (sym h) (operator_in_good n names (list_items d) (good_parts n d g))

by_symbol : (later : List (List ℕ)) (d : Item) (x : Option Symbol) → is_lacking_name (setter_in later (list_items d)) ≡ false → is_lacking_name (named_by later d x) ≡ false
by_symbol later d None h = h
by_symbol later d (Some (Named n)) h = refl
by_symbol later d (Some (Fresh e k)) h = refl

pub name_there : (old new : List (List ℕ)) (d : Item) (o : Option Item) → WellFormed (length old) d → o ≡ operator_in old (list_items d) → Extends old new
    → HasNames new (λ later. is_lacking_name (by_operator later o)) → HasNames new (name_lacks d)
name_there old new d o g h k there = record { under = under }
  where
    under : (later : List (List ℕ)) → Extends new later → name_lacks d later ≡ false
    under later e =
        let same : o ≡ operator_in later (list_items d) = h ∙ operator_same old later (list_items d) (Extends-then old new later k e) (good_parts (length old) d g) in
        let set : setter_in later (list_items d) ≡ by_operator later o = setter_of_operator later (list_items d) ∙ ap (by_operator later) (sym same) in
        by_symbol later d (symbol_of d) (ap is_lacking_name set ∙ there.under later e)

-- of an option of a slot

method_said : (k : Accessor) (g : GivenName) → is_lacking_name g ≡ false → option_lacks (method_by k g) ≡ false
method_said k no_name h = refl
method_said k unfit h = refl
method_said k lacking h = absurd (cc)
method_said k (given n) h = refl

accessor_name_said : (n : Name) (g : GivenName) → is_lacking_name g ≡ false → option_lacks (Some (accessor_with n g)) ≡ false
accessor_name_said n no_name h = refl
accessor_name_said n unfit h = refl
accessor_name_said n lacking h = absurd (cc)
accessor_name_said n (given m) h = refl

accessor_said : (later : List (List ℕ)) (x : Option Symbol) → is_lacking_name (setter_of_symbol later x) ≡ false → option_lacks (accessor_by later x) ≡ false
accessor_said later None h = refl
accessor_said later (Some (Named n)) h = accessor_name_said n (setter_of_text later (symbol_text later (Named n))) h
accessor_said later (Some (Fresh e k)) h = refl

initarg_said : (x : Option Symbol) → option_lacks (initarg_by x) ≡ false
initarg_said None = refl
initarg_said (Some (Named n)) = refl
initarg_said (Some (Fresh e k)) = refl

by_words : (i j r w b c : Bool) (d : Item) (x : Option Symbol) (g : GivenName) (y : Option SlotOption)
    → (((r || w) || b) ≡ true → is_lacking_name g ≡ false) → (((r || w) || b) ≡ false → c ≡ true → option_lacks y ≡ false)
    → option_lacks (if i then Some (initform_of d) else if j then initarg_by x else if r then method_by Reads g else if w then method_by Writes g else if b then method_by Asks g else if c then y else Some wrong_option) ≡ false
by_words true j r w b c d x g y h k = refl
by_words false true r w b c d x g y h k = initarg_said x
by_words false false true w b c d x g y h k = method_said Reads g (h refl)
by_words false false false true b c d x g y h k = method_said Writes g (h refl)
by_words false false false false true c d x g y h k = method_said Asks g (h refl)
by_words false false false false false true d x g y h k = k refl refl
by_words false false false false false false d x g y h k = refl

option_said : (later : List (List ℕ)) (o d : Item) → (asks_in later o ≡ true → name_lacks d later ≡ false)
    → (asks_in later o ≡ false → is_word later (codes ":accessor") o ≡ true → setter_lacks d later ≡ false) → option_lacks (slot_option later o d) ≡ false
option_said later o d h k =
    by_words (is_word later (codes ":initform") o) (is_word later (codes ":initarg") o) (is_word later (codes ":reader") o) (is_word later (codes ":writer") o)
    (is_word later (codes ":boundp") o) (is_word later (codes ":accessor") o) d (symbol_of d) (given_name later d) (accessor_by later (symbol_of d))
    h (λ m n. accessor_said later (symbol_of d) (k m n))

asks_same : (old later : List (List ℕ)) (o : Item) → Extends old later → WellFormed (length old) o → asks_in old o ≡ asks_in later o
asks_same old later o e g =
    let a : is_word old (codes ":reader") o ≡ is_word later (codes ":reader") o = same_word old later (codes ":reader") o e g in
    let b : is_word old (codes ":writer") o ≡ is_word later (codes ":writer") o = same_word old later (codes ":writer") o e g in
    let c : is_word old (codes ":boundp") o ≡ is_word later (codes ":boundp") o = same_word old later (codes ":boundp") o e g in
    ap (λ (z : Bool). (z || is_word old (codes ":writer") o) || is_word old (codes ":boundp") o) a
    ∙ ap (λ (z : Bool). (is_word later (codes ":reader") o || z) || is_word old (codes ":boundp") o) b
    ∙ ap (λ (z : Bool). (is_word later (codes ":reader") o || is_word later (codes ":writer") o) || z) c

not_both : (b c : Bool) → b ≡ true → b ≡ false → ⊥
not_both true c h k = absurd (cc)
not_both false c h k = absurd (cc)

pub asked_there : (old new : List (List ℕ)) (o d : Item) → WellFormed (length old) o → Extends old new → asks_in old o ≡ true → HasNames new (name_lacks d) → HasNames new (pair_lacks o d)
asked_there old new o d g k h there = record {
  under = λ later e. option_said later o d (λ m. there.under later e)
      (λ m n. absurd (not_both (asks_in later o) true (sym (asks_same old later o (Extends-then old new later k e) g) ∙ h) m));
}

pub accessor_there : (old new : List (List ℕ)) (o d : Item) → WellFormed (length old) o → Extends old new → asks_in old o ≡ false → HasNames new (setter_lacks d) → HasNames new (pair_lacks o d)
accessor_there old new o d g k h there = record {
  under = λ later e. option_said later o d
      (λ m. absurd (not_both (asks_in later o) true m (sym (asks_same old later o (Extends-then old new later k e) g) ∙ h)))
      (λ m n. there.under later e);
}

pub neither_there : (names : List (List ℕ)) (o d : Item) → WellFormed (length names) o → asks_in names o ≡ false → is_word names (codes ":accessor") o ≡ false → HasNames names (pair_lacks o d)
neither_there names o d g h k = record {
  under = λ later e. option_said later o d
      (λ m. absurd (not_both (asks_in later o) true m (sym (asks_same names later o e g) ∙ h)))
      (λ m n. absurd (not_both (is_word later (codes ":accessor") o) true n (sym (same_word names later (codes ":accessor") o e g) ∙ k)));
}

-- a list that is read from the front: the names of the rest are left to add

pub record Adding (old names : List (List ℕ)) (left : List Item) (rest all : List (List ℕ) → Bool) : Type 0 where
  pub later : Extends old names
  pub good : AllOf (WellFormed (length names)) left
  pub so : (later : List (List ℕ)) → Extends names later → rest later ≡ false → all later ≡ false

pub adding_first : (names : List (List ℕ)) (ds : List Item) (all : List (List ℕ) → Bool) → AllOf (WellFormed (length names)) ds → Adding names names ds all all
adding_first names ds all g = record { later = Extends-same names; good = g; so = λ later e h. h }

pub adding_next : (old names more : List (List ℕ)) (left others : List Item) (rest next all : List (List ℕ) → Bool) → Adding old names left rest all → Extends names more
    → AllOf (WellFormed (length names)) others → ((later : List (List ℕ)) → Extends more later → next later ≡ false → rest later ≡ false) → Adding old more others next all
adding_next old names more left others rest next all a e g f = record {
  later = Extends-then old names more a.later e;
  good = all_good_stay names more others e g;
  so = λ later k h. a.so later (Extends-then names more later e k) (f later k h);
}

pub adding_last : (old names : List (List ℕ)) (left : List Item) (rest all : List (List ℕ) → Bool) → Adding old names left rest all
    → ((later : List (List ℕ)) → rest later ≡ false) → HasNames names all
adding_last old names left rest all a f = record { under = λ later e. a.so later e (f later) }

-- options

or_said : (b c : Bool) → b ≡ false → c ≡ false → (b || c) ≡ false
or_said true c h k = absurd (cc)
or_said false c h k = k

any_said : (fs gs : List Function) → list_any is_lacking fs ≡ false → list_any is_lacking gs ≡ false → list_any is_lacking (fs ++ gs) ≡ false
any_said [] gs h k = k
any_said (f ∷ fs) gs h k = any_by (is_lacking f) (list_any is_lacking fs) (list_any is_lacking (fs ++ gs)) h (λ m. any_said fs gs m k)
  where
    any_by : (b c e : Bool) → (b || c) ≡ false → (c ≡ false → e ≡ false) → (b || e) ≡ false
    any_by true c e h f = absurd (cc)
    any_by false c e h f = f h

option_and_said : (o : Option SlotOption) (os : Option (List SlotOption)) → option_lacks o ≡ false → options_lack os ≡ false → options_lack (option_and o os) ≡ false
option_and_said None os h k = refl
option_and_said (Some o) None h k = refl
option_and_said (Some o) (Some os) h k = any_said (functions_of_option o) (flat_map functions_of_option os) h k

pub one_pair_more : (later : List (List ℕ)) (o d : Item) (ds : List Item) → pair_lacks o d later ≡ false → list_lacks ds later ≡ false → list_lacks (o ∷ d ∷ ds) later ≡ false
one_pair_more later o d ds h k = option_and_said (slot_option later o d) (slot_options later ds) h k

pairs_left : (o d : Item) (ds : List Item) → take (length (o ∷ d ∷ ds) - 2) (drop 2 (o ∷ d ∷ ds)) ≡ ds
pairs_left o d ds = let n : length (o ∷ d ∷ ds) - 2 ≡ length ds = omega arith in ap (λ k. take k ds) n ∙ take-length ds

pub pair_turn : (old names more : List (List ℕ)) (left : List Item) (o d : Item) (all : List (List ℕ) → Bool) → Adding old names left (list_lacks left) all
    → 2 ≤ length left → o ≡ get_or left 0 o → d ≡ get_or left 1 d → Extends names more → HasNames more (pair_lacks o d)
    → Adding old more (take (length left - 2) (drop 2 left)) (list_lacks (take (length left - 2) (drop 2 left))) all
pair_turn old names more [] o d all a n first second e there = absurd (omega (arith, n))
pair_turn old names more (x ∷ []) o d all a n first second e there = absurd (omega (arith, n))
pair_turn old names more (x ∷ y ∷ ds) o d all a n first second e there =
    let here : HasNames more (pair_lacks x y) =
    subst (λ (z : Item). HasNames more (pair_lacks z y)) first (subst (λ (z : Item). HasNames more (pair_lacks o z)) second there) in
    subst (λ (z : List Item). Adding old more z (list_lacks z) all) (sym (pairs_left x y ds))
    (adding_next old names more (x ∷ y ∷ ds) ds (list_lacks (x ∷ y ∷ ds)) (list_lacks ds) all a e a.good.1.1
    (λ later k h. one_pair_more later x y ds (here.under later k) h))

-- slots

abbrev pub behind_lacks : Option (List Item) → List (List ℕ) → Bool
behind_lacks None later = false
behind_lacks (Some ds) later = list_lacks ds later

slot_with_said : (p : Place) (n : Option Name) (os : Option (List SlotOption)) → options_lack os ≡ false → slot_lacks (slot_with p n os) ≡ false
slot_with_said p None os h = refl
slot_with_said p (Some n) None h = refl
slot_with_said p (Some n) (Some os) h = h

in_list_said : (later : List (List ℕ)) (p : Place) (ds : Option (List Item)) → behind_lacks (behind_first ds) later ≡ false → slot_lacks (slot_in_list later p ds) ≡ false
in_list_said later p None h = refl
in_list_said later p (Some []) h = refl
in_list_said later p (Some (d ∷ ds)) h = slot_with_said p (name_in (symbol_of d)) (slot_options later ds) h

slot_said : (later : List (List ℕ)) (d : Item) (x : Option Symbol) → behind_lacks (behind_first (list_items d)) later ≡ false → slot_lacks (slot_by later d x) ≡ false
slot_said later d None h = in_list_said later (place_of d) (list_items d) h
slot_said later d (Some x) h = slot_with_said (place_of d) (name_of x) (Some []) refl

pub slot_there : (new : List (List ℕ)) (d : Item) (o : Option (List Item)) → o ≡ behind_first (list_items d) → HasNames new (behind_lacks o) → HasNames new (datum_lacks d)
slot_there new d o h there = record {
  under = λ later e. slot_said later d (symbol_of d) (subst (λ (z : Option (List Item)). behind_lacks z later ≡ false) h (there.under later e));
}

behind_first_good : (n : ℕ) (ds : Option (List Item)) → MaybeGood n ds → MaybeGood n (behind_first ds)
behind_first_good n None g = tt
behind_first_good n (Some []) g = tt
behind_first_good n (Some (d ∷ ds)) g = g.1

pub behind_good : (n : ℕ) (d : Item) (o : Option (List Item)) → WellFormed n d → o ≡ behind_first (list_items d) → MaybeGood n o
behind_good n d o g h = subst (MaybeGood n) (sym h) (behind_first_good n (list_items d) (good_parts n d g))

slot_and_said : (x : Option WrittenSlot) (xs : Option (List WrittenSlot)) → slot_lacks x ≡ false → slots_lack xs ≡ false → slots_lack (slot_and x xs) ≡ false
slot_and_said None xs h k = refl
slot_and_said (Some x) None h k = refl
slot_and_said (Some x) (Some xs) h k = any_said (functions_of x) (flat_map functions_of xs) h k

pub one_slot_more : (later : List (List ℕ)) (d : Item) (ds : List Item) → datum_lacks d later ≡ false → each_lacks ds later ≡ false → each_lacks (d ∷ ds) later ≡ false
one_slot_more later d ds h k = slot_and_said (slot_by later d (symbol_of d)) (each_slot later ds) h k

items_from : (ds : List Item) (i : ℕ) (d : Item) → i < length ds → d ≡ get_or ds i d → drop i ds ≡ d ∷ drop (i + 1) ds
items_from [] i d n h = absurd (omega (arith, n))
items_from (e ∷ ds) zero d n h = ap (λ z. z ∷ ds) (sym h)
items_from (e ∷ ds) (suc i) d n h =
    let s : suc i + 1 ≡ suc (i + 1) = omega arith in
    let below : i < length ds = omega (arith, n) in
    rw s (items_from ds i d below h)

pub slot_turn : (old names more : List (List ℕ)) (ds : List Item) (i : ℕ) (d : Item) (all : List (List ℕ) → Bool) → Adding old names (drop i ds) (each_lacks (drop i ds)) all
    → i < length ds → d ≡ get_or ds i d → Extends names more → HasNames more (datum_lacks d) → Adding old more (drop (i + 1) ds) (each_lacks (drop (i + 1) ds)) all
slot_turn old names more ds i d all a n h e there =
    let now : drop i ds ≡ d ∷ drop (i + 1) ds = items_from ds i d n h in
    let good : WellFormed (length names) d × AllOf (WellFormed (length names)) (drop (i + 1) ds) = subst (AllOf (WellFormed (length names))) now a.good in
    adding_next old names more (drop i ds) (drop (i + 1) ds) (each_lacks (drop i ds)) (each_lacks (drop (i + 1) ds)) all a e good.1
    (λ later k m. subst (λ (z : List Item). each_lacks z later ≡ false) (sym now) (one_slot_more later d (drop (i + 1) ds) (there.under later k) m))

-- definitions

slots_good : (n : ℕ) (ds : List Item) → AllOf (WellFormed n) ds → MaybeGood n (slots_behind ds)
slots_good n [] g = tt
slots_good n (d ∷ []) g = tt
slots_good n (d ∷ cs ∷ []) g = tt
slots_good n (d ∷ cs ∷ xs ∷ os) g = good_parts n xs g.1.1.0

pub slots_behind_good : (n : ℕ) (ds : List Item) (o : Option (List Item)) → AllOf (WellFormed n) ds → o ≡ slots_behind ds → MaybeGood n o
slots_behind_good n ds o g h = subst (MaybeGood n) (sym h) (slots_good n ds g)

abbrev pub slots_of_lack : Option (List Item) → List (List ℕ) → Bool
slots_of_lack o later = slots_lack (slots_in later o)

pub class_there : (new : List (List ℕ)) (ds : List Item) (o : Option (List Item)) → o ≡ slots_behind ds → HasNames new (slots_of_lack o) → HasNames new (class_lacks ds)
class_there new ds o h there = record {
  under = λ later e. subst (λ (z : Option (List Item)). slots_of_lack z later ≡ false) h (there.under later e);
}

special_same : (old later : List (List ℕ)) (ds : Option (List Item)) → Extends old later → MaybeGood (length old) ds → special_in old ds ≡ special_in later ds
special_same old later None e g = refl
special_same old later (Some []) e g = refl
special_same old later (Some (d ∷ ds)) e g = ap special_of (same_text old later d e g.0)

nothing_behind : (later : List (List ℕ)) (x : Option Special) (o : Option (List Item)) → o ≡ None → headed_lacks later x o ≡ false
nothing_behind later x None h = refl
nothing_behind later x (Some ds) h = absurd (cc)

by_kind : (b c : Bool) (x y : Bool) → (b ≡ true → x ≡ false) → (b ≡ false → c ≡ true → y ≡ false) → (if b then x else if c then y else false) ≡ false
by_kind true c x y h k = h refl
by_kind false true x y h k = k refl refl
by_kind false false x y h k = refl

headed_said : (later : List (List ℕ)) (x : Option Special) (o : Option (List Item)) (ds : List Item) → o ≡ Some ds
    → (defines_class x ≡ true → class_lacks ds later ≡ false) → (defines_class x ≡ false → defines_methods x ≡ true → first_lacks ds later ≡ false) → headed_lacks later x o ≡ false
headed_said later x None ds h f g = absurd (cc)
headed_said later x (Some es) ds h f g =
    let same : ds ≡ es = cc in
    by_kind (defines_class x) (defines_methods x) (class_lacks es later) (first_lacks es later)
    (λ m. subst (λ (z : List Item). class_lacks z later ≡ false) same (f m)) (λ m n. subst (λ (z : List Item). first_lacks z later ≡ false) same (g m n))

pub nothing_there : (names : List (List ℕ)) (d : Item) → behind_first (list_items d) ≡ None → HasNames names (form_lacks d)
nothing_there names d h = record { under = λ later e. nothing_behind later (special_in later (list_items d)) (behind_first (list_items d)) h }

same_special : (old new later : List (List ℕ)) (d : Item) → WellFormed (length old) d → Extends old new → Extends new later → special_in old (list_items d) ≡ special_in later (list_items d)
same_special old new later d g k e = special_same old later (list_items d) (Extends-then old new later k e) (good_parts (length old) d g)

pub class_form_there : (old new : List (List ℕ)) (d : Item) (ds : List Item) → WellFormed (length old) d → Extends old new → behind_first (list_items d) ≡ Some ds
    → defines_class (special_in old (list_items d)) ≡ true → HasNames new (class_lacks ds) → HasNames new (form_lacks d)
class_form_there old new d ds g k h b there = record {
  under = λ later e. headed_said later (special_in later (list_items d)) (behind_first (list_items d)) ds h (λ m. there.under later e)
      (λ m n. absurd (not_both (defines_class (special_in later (list_items d))) true (ap defines_class (sym (same_special old new later d g k e)) ∙ b) m));
}

pub method_form_there : (old new : List (List ℕ)) (d : Item) (ds : List Item) → WellFormed (length old) d → Extends old new → behind_first (list_items d) ≡ Some ds
    → defines_class (special_in old (list_items d)) ≡ false → HasNames new (first_lacks ds) → HasNames new (form_lacks d)
method_form_there old new d ds g k h b there = record {
  under = λ later e. headed_said later (special_in later (list_items d)) (behind_first (list_items d)) ds h
      (λ m. absurd (not_both (defines_class (special_in later (list_items d))) true m (ap defines_class (sym (same_special old new later d g k e)) ∙ b)))
      (λ m n. there.under later e);
}

pub other_form_there : (names : List (List ℕ)) (d : Item) (ds : List Item) → WellFormed (length names) d → behind_first (list_items d) ≡ Some ds
    → defines_class (special_in names (list_items d)) ≡ false → defines_methods (special_in names (list_items d)) ≡ false → HasNames names (form_lacks d)
other_form_there names d ds g h b c = record {
  under = λ later e. headed_said later (special_in later (list_items d)) (behind_first (list_items d)) ds h
      (λ m. absurd (not_both (defines_class (special_in later (list_items d))) true m (ap defines_class (sym (same_special names names later d g (Extends-same names) e)) ∙ b)))
      (λ m n. absurd (not_both (defines_methods (special_in later (list_items d))) true n (ap defines_methods (sym (same_special names names later d g (Extends-same names) e)) ∙ c)));
}
