-- The row of the definition of a class stays under every later table of names, unless the earlier one lacks a name.
use Rattle.std.proofs.Common.{◌≡◌, ℕ, Bool, true, false, not, ◌&&◌, ◌||◌, List, [], ◌∷◌, ◌++◌, ◌⊎◌, inl, inr, ⊎_elim, Option, Some, None, if◌then◌else◌, length, refl, sym, ap, subst, ◌∙◌}
use Rattle.std.specs.Prelude.{flat_map, filter_map, codes, slice_get}
use Rattle.std.specs.List.{list_any}
use Rattle.base.specs.declared.place.Place.{Place}
use Rattle.base.specs.declared.datum.Name.{Name}
use Rattle.base.specs.declared.datum.Symbol.{Symbol}
use Rattle.base.specs.declared.datum.Symbol.TheVariants.{Named, Fresh}
use Rattle.base.specs.Names.{Extends}
use Rattle.base.specs.Data.{Item, item, integer, character, symbol, string, vector, nil, list, place_of}
use Rattle.base.specs.DataNames.{symbol_text, text_of}
use Rattle.base.specs.AllOf.{AllOf}
use Rattle.base.specs.WellFormedData.{WellFormed}
use Rattle.lang_derived.specs.Asked.{list_items, is_word, is_text}
use Rattle.front_profile.specs.declared.elaboration.Accessor.{Accessor}
use Rattle.front_profile.specs.declared.elaboration.Accessor.TheVariants.{Reads, Writes, Asks}
use Rattle.front_profile.specs.declared.tables.Tables.{Tables}
use Rattle.front_profile.specs.Nodes.{StaticContext, Node, unnamed, NodeStays}
use Rattle.front_profile.specs.Shapes.{symbol_of, name_of}
use Rattle.front_profile.specs.RowWords.{bad_shape}
use Rattle.front_profile.specs.Elaborations.{arguments_of}
use Rattle.front_profile.specs.DefiningRows.{named, defining, is_truth, is_of_prelude}
use Rattle.front_profile.specs.GivenNames.{GivenName, no_name, unfit, lacking, given, given_name, setter_of_text}
use Rattle.front_profile.specs.GenericRows.{keeps, kept_by}
use Rattle.front_profile.specs.ClassShapes.{SlotOption, wrong_option, initform_of, initarg_of, method_of, accessor_of, initarg_by, method_by, accessor_with, accessor_by, slot_option, option_and, slot_options, WrittenSlot, slot_with, name_in, slot_in_list, slot_by, slot_and, each_slot, slots_in, WrittenSuper, supers_in, ClassOption, no_option, left_out, abstract, is_nil, abstract_option, is_left_out_option, class_option, class_options, are_options}
use Rattle.front_profile.specs.ClassRows.{Function, for_initform, for_method, functions_of_option, functions_of, all_functions, Use, use_of, uses, is_lacking, is_of_function, is_kept_name, is_taken_class, is_reserved_class, class_checked, class_of, class_shaped, defclass_row}
use Rattle.front_profile.specs.bridge.WellFormedParts.{MaybeGood, good_parts}
use Rattle.front_profile.specs.bridge.LaterNames.{same_text, is_some_name, GivenLater, given_later, text_setter_later, GivenKept, given_kept, text_setter_kept}
use Rattle.front_profile.specs.bridge.LaterDefinitions.{stays_if}

-- options of slots: one asks for a name that the earlier table lacks, or they are the same

abbrev pub lacks : List Function → Bool
lacks fs = list_any is_lacking fs

abbrev pub OptionLater : SlotOption → SlotOption → Type 0
OptionLater o p = (lacks (functions_of_option o) ≡ true) ⊎ (o ≡ p)

abbrev pub MaybeLater : Option SlotOption → Option SlotOption → Type 0
MaybeLater None None = Unit {0}
MaybeLater None (Some p) = ⊥
MaybeLater (Some o) None = ⊥
MaybeLater (Some o) (Some p) = OptionLater o p

same_option : (o : Option SlotOption) → MaybeLater o o
same_option None = tt
same_option (Some o) = inr refl

equal_option : (o p : Option SlotOption) → o ≡ p → MaybeLater o p
equal_option o p h = subst (λ (x : Option SlotOption). MaybeLater o x) h (same_option o)

method_lacking : (k : Accessor) (y : GivenName) → is_some_name y ≡ true → MaybeLater (method_by k lacking) (method_by k y)
method_lacking k no_name h = absurd (cc)
method_lacking k unfit h = absurd (cc)
method_lacking k lacking h = inl refl
method_lacking k (given n) h = inl refl

method_by_later : (k : Accessor) (x y : GivenName) → GivenLater x y → MaybeLater (method_by k x) (method_by k y)
method_by_later k x y h =
    ⊎_elim (λ lacked. subst (λ (z : GivenName). MaybeLater (method_by k z) (method_by k y)) (sym lacked.0) (method_lacking k y lacked.1))
    (λ same. equal_option (method_by k x) (method_by k y) (ap (method_by k) same)) h

accessor_with_later : (n : Name) (x y : GivenName) → GivenLater x y → OptionLater (accessor_with n x) (accessor_with n y)
accessor_with_later n x y h =
    ⊎_elim (λ lacked. inl (ap (λ z. lacks (functions_of_option (accessor_with n z))) lacked.0)) (λ same. inr (ap (accessor_with n) same)) h

accessor_later : (old new : List (List ℕ)) (d : Item) → Extends old new → WellFormed (length old) d → MaybeLater (accessor_by old (symbol_of d)) (accessor_by new (symbol_of d))
accessor_later old new (item p (symbol (Named n))) e g =
    subst (λ (t : Option (List ℕ)). OptionLater (accessor_with n (setter_of_text old (slice_get old n.0))) (accessor_with n (setter_of_text new t)))
    (same_text old new (item p (symbol (Named n))) e g)
    (accessor_with_later n _ _ (text_setter_later old new (slice_get old n.0) e))
accessor_later old new (item p (symbol (Fresh k s))) e g = tt
accessor_later old new (item p (integer n)) e g = inr refl
accessor_later old new (item p (character c)) e g = inr refl
accessor_later old new (item p (string bytes)) e g = inr refl
accessor_later old new (item p (vector ds)) e g = inr refl
accessor_later old new (item p nil) e g = inr refl
accessor_later old new (item p (list ds t)) e g = inr refl

first_later : (a b c e f h : Bool) (o1 o2 o3 o4 o5 o6 o7 p3 p4 p5 p6 : Option SlotOption) → MaybeLater o3 p3 → MaybeLater o4 p4 → MaybeLater o5 p5 → MaybeLater o6 p6 →
    MaybeLater (if a then o1 else if b then o2 else if c then o3 else if e then o4 else if f then o5 else if h then o6 else o7)
    (if a then o1 else if b then o2 else if c then p3 else if e then p4 else if f then p5 else if h then p6 else o7)
first_later true b c e f h o1 o2 o3 o4 o5 o6 o7 p3 p4 p5 p6 g3 g4 g5 g6 = same_option o1
first_later false true c e f h o1 o2 o3 o4 o5 o6 o7 p3 p4 p5 p6 g3 g4 g5 g6 = same_option o2
first_later false false true e f h o1 o2 o3 o4 o5 o6 o7 p3 p4 p5 p6 g3 g4 g5 g6 = g3
first_later false false false true f h o1 o2 o3 o4 o5 o6 o7 p3 p4 p5 p6 g3 g4 g5 g6 = g4
first_later false false false false true h o1 o2 o3 o4 o5 o6 o7 p3 p4 p5 p6 g3 g4 g5 g6 = g5
first_later false false false false false true o1 o2 o3 o4 o5 o6 o7 p3 p4 p5 p6 g3 g4 g5 g6 = g6
first_later false false false false false false o1 o2 o3 o4 o5 o6 o7 p3 p4 p5 p6 g3 g4 g5 g6 = same_option o7

-- an option by the text of its name
abbrev pub option_by : List (List ℕ) → Option (List ℕ) → Item → Option SlotOption
option_by names t d =
    if is_text (codes ":initform") t then Some (initform_of d)
    else if is_text (codes ":initarg") t then initarg_by (symbol_of d)
    else if is_text (codes ":reader") t then method_by Reads (given_name names d)
    else if is_text (codes ":writer") t then method_by Writes (given_name names d)
    else if is_text (codes ":boundp") t then method_by Asks (given_name names d)
    else if is_text (codes ":accessor") t then accessor_by names (symbol_of d)
    else Some wrong_option

option_by_later : (old new : List (List ℕ)) (t : Option (List ℕ)) (d : Item) → Extends old new → WellFormed (length old) d → MaybeLater (option_by old t d) (option_by new t d)
option_by_later old new t d e g =
    first_later (is_text (codes ":initform") t) (is_text (codes ":initarg") t) (is_text (codes ":reader") t) (is_text (codes ":writer") t) (is_text (codes ":boundp") t) (is_text (codes ":accessor") t)
    (Some (initform_of d)) (initarg_by (symbol_of d)) (method_by Reads (given_name old d)) (method_by Writes (given_name old d)) (method_by Asks (given_name old d)) (accessor_by old (symbol_of d)) (Some wrong_option)
    (method_by Reads (given_name new d)) (method_by Writes (given_name new d)) (method_by Asks (given_name new d)) (accessor_by new (symbol_of d))
    (method_by_later Reads _ _ (given_later old new d e g)) (method_by_later Writes _ _ (given_later old new d e g)) (method_by_later Asks _ _ (given_later old new d e g)) (accessor_later old new d e g)

option_later : (old new : List (List ℕ)) (o d : Item) → Extends old new → WellFormed (length old) o → WellFormed (length old) d → MaybeLater (slot_option old o d) (slot_option new o d)
option_later old new o d e g h =
    subst (λ (t : Option (List ℕ)). MaybeLater (slot_option old o d) (option_by new t d)) (same_text old new o e g) (option_by_later old new (text_of old o) d e h)

-- all options of a slot, and all slots

abbrev pub functions_in : List SlotOption → List Function
functions_in os = flat_map functions_of_option os

abbrev pub OptionsLater : Option (List SlotOption) → Option (List SlotOption) → Type 0
OptionsLater None None = Unit {0}
OptionsLater None (Some ps) = ⊥
OptionsLater (Some os) None = ⊥
OptionsLater (Some os) (Some ps) = (lacks (functions_in os) ≡ true) ⊎ (os ≡ ps)

any_front : (fs gs : List Function) → lacks fs ≡ true → lacks (fs ++ gs) ≡ true
any_front [] gs h = absurd (cc)
any_front (f ∷ fs) gs h = or_front (is_lacking f) (lacks fs) (lacks (fs ++ gs)) h (λ k. any_front fs gs k)
  where
    or_front : (b c d : Bool) → (b || c) ≡ true → (c ≡ true → d ≡ true) → (b || d) ≡ true
    or_front true c d h k = refl
    or_front false c d h k = k h

any_behind : (fs gs : List Function) → lacks gs ≡ true → lacks (fs ++ gs) ≡ true
any_behind [] gs h = h
any_behind (f ∷ fs) gs h = or_true (is_lacking f) (lacks (fs ++ gs)) (any_behind fs gs h)
  where
    or_true : (b c : Bool) → c ≡ true → (b || c) ≡ true
    or_true true c h = refl
    or_true false c h = h

one_more_later : (o p : Option SlotOption) (os ps : Option (List SlotOption)) → MaybeLater o p → OptionsLater os ps → OptionsLater (option_and o os) (option_and p ps)
one_more_later None None os ps g h = tt
one_more_later None (Some p) os ps g h = absurd g
one_more_later (Some o) None os ps g h = absurd g
one_more_later (Some o) (Some p) None None g h = tt
one_more_later (Some o) (Some p) None (Some ps) g h = absurd h
one_more_later (Some o) (Some p) (Some os) None g h = absurd h
one_more_later (Some o) (Some p) (Some os) (Some ps) g h =
    ⊎_elim (λ l. inl (any_front (functions_of_option o) (functions_in os) l))
    (λ same. ⊎_elim (λ l. inl (any_behind (functions_of_option o) (functions_in os) l)) (λ sames. inr (ap (λ x. x ∷ os) same ∙ ap (λ xs. p ∷ xs) sames)) h) g

options_later : (old new : List (List ℕ)) (ds : List Item) → Extends old new → AllOf (WellFormed (length old)) ds → OptionsLater (slot_options old ds) (slot_options new ds)
options_later old new [] e g = inr refl
options_later old new (o ∷ []) e g = tt
options_later old new (o ∷ d ∷ ds) e g =
    one_more_later (slot_option old o d) (slot_option new o d) (slot_options old ds) (slot_options new ds)
    (option_later old new o d e g.0 g.1.0) (options_later old new ds e g.1.1)

abbrev pub SlotLater : Option WrittenSlot → Option WrittenSlot → Type 0
SlotLater None None = Unit {0}
SlotLater None (Some y) = ⊥
SlotLater (Some x) None = ⊥
SlotLater (Some x) (Some y) = (lacks (functions_of x) ≡ true) ⊎ (x ≡ y)

abbrev pub SlotsLater : Option (List WrittenSlot) → Option (List WrittenSlot) → Type 0
SlotsLater None None = Unit {0}
SlotsLater None (Some ys) = ⊥
SlotsLater (Some xs) None = ⊥
SlotsLater (Some xs) (Some ys) = (lacks (all_functions xs) ≡ true) ⊎ (xs ≡ ys)

slot_with_later : (p : Place) (n : Option Name) (os ps : Option (List SlotOption)) → OptionsLater os ps → SlotLater (slot_with p n os) (slot_with p n ps)
slot_with_later p None os ps h = tt
slot_with_later p (Some n) None None h = tt
slot_with_later p (Some n) None (Some ps) h = absurd h
slot_with_later p (Some n) (Some os) None h = absurd h
slot_with_later p (Some n) (Some os) (Some ps) h =
    ⊎_elim (λ l. inl l) (λ same. inr (ap (λ (x : List SlotOption). record { place = p; name = n; options = x }) same)) h

slot_list_later : (old new : List (List ℕ)) (p : Place) (ds : Option (List Item)) → Extends old new → MaybeGood (length old) ds → SlotLater (slot_in_list old p ds) (slot_in_list new p ds)
slot_list_later old new p None e g = tt
slot_list_later old new p (Some []) e g = tt
slot_list_later old new p (Some (d ∷ ds)) e g = slot_with_later p (name_in (symbol_of d)) (slot_options old ds) (slot_options new ds) (options_later old new ds e g.1)

slot_later : (old new : List (List ℕ)) (d : Item) (x : Option Symbol) → Extends old new → WellFormed (length old) d → SlotLater (slot_by old d x) (slot_by new d x)
slot_later old new d None e g = slot_list_later old new (place_of d) (list_items d) e (good_parts (length old) d g)
slot_later old new d (Some x) e g = slot_with_later (place_of d) (name_of x) (Some []) (Some []) (inr refl)

one_slot_later : (x y : Option WrittenSlot) (xs ys : Option (List WrittenSlot)) → SlotLater x y → SlotsLater xs ys → SlotsLater (slot_and x xs) (slot_and y ys)
one_slot_later None None xs ys g h = tt
one_slot_later None (Some y) xs ys g h = absurd g
one_slot_later (Some x) None xs ys g h = absurd g
one_slot_later (Some x) (Some y) None None g h = tt
one_slot_later (Some x) (Some y) None (Some ys) g h = absurd h
one_slot_later (Some x) (Some y) (Some xs) None g h = absurd h
one_slot_later (Some x) (Some y) (Some xs) (Some ys) g h =
    ⊎_elim (λ l. inl (any_front (functions_of x) (all_functions xs) l))
    (λ same. ⊎_elim (λ l. inl (any_behind (functions_of x) (all_functions xs) l)) (λ sames. inr (ap (λ z. z ∷ xs) same ∙ ap (λ zs. y ∷ zs) sames)) h) g

each_slot_later : (old new : List (List ℕ)) (ds : List Item) → Extends old new → AllOf (WellFormed (length old)) ds → SlotsLater (each_slot old ds) (each_slot new ds)
each_slot_later old new [] e g = inr refl
each_slot_later old new (d ∷ ds) e g =
    one_slot_later (slot_by old d (symbol_of d)) (slot_by new d (symbol_of d)) (each_slot old ds) (each_slot new ds)
    (slot_later old new d (symbol_of d) e g.0) (each_slot_later old new ds e g.1)

slots_later : (old new : List (List ℕ)) (ds : Option (List Item)) → Extends old new → MaybeGood (length old) ds → SlotsLater (slots_in old ds) (slots_in new ds)
slots_later old new None e g = tt
slots_later old new (Some ds) e g = each_slot_later old new ds e g

-- names of methods have the same texts

abbrev pub FunctionKept : (old new : List (List ℕ)) → Function → Type 0
FunctionKept old new (for_initform d) = Unit {0}
FunctionKept old new (for_method g k) = GivenKept old new g

abbrev pub AllKept : (old new : List (List ℕ)) → List Function → Type 0
AllKept old new [] = Unit {0}
AllKept old new (f ∷ fs) = FunctionKept old new f × AllKept old new fs

both_kept : (old new : List (List ℕ)) (fs gs : List Function) → AllKept old new fs → AllKept old new gs → AllKept old new (fs ++ gs)
both_kept old new [] gs g h = h
both_kept old new (f ∷ fs) gs g h = (g.0, both_kept old new fs gs g.1 h)

abbrev pub MaybeKept : (old new : List (List ℕ)) → Option SlotOption → Type 0
MaybeKept old new None = Unit {0}
MaybeKept old new (Some o) = AllKept old new (functions_of_option o)

initarg_kept : (old new : List (List ℕ)) (x : Option Symbol) → MaybeKept old new (initarg_by x)
initarg_kept old new None = tt
initarg_kept old new (Some (Named n)) = tt
initarg_kept old new (Some (Fresh k s)) = tt

method_by_kept : (old new : List (List ℕ)) (k : Accessor) (x : GivenName) → GivenKept old new x → MaybeKept old new (method_by k x)
method_by_kept old new k no_name h = tt
method_by_kept old new k unfit h = tt
method_by_kept old new k lacking h = (tt, tt)
method_by_kept old new k (given n) h = (h, tt)

accessor_with_kept : (old new : List (List ℕ)) (n : Name) (x : GivenName) → slice_get old n.0 ≡ slice_get new n.0 → GivenKept old new x →
    AllKept old new (functions_of_option (accessor_with n x))
accessor_with_kept old new n no_name g h = tt
accessor_with_kept old new n unfit g h = tt
accessor_with_kept old new n lacking g h = (g, (tt, tt))
accessor_with_kept old new n (given m) g h = (g, (h, tt))

accessor_kept : (old new : List (List ℕ)) (d : Item) → Extends old new → WellFormed (length old) d → MaybeKept old new (accessor_by old (symbol_of d))
accessor_kept old new (item p (symbol (Named n))) e g =
    accessor_with_kept old new n _ (same_text old new (item p (symbol (Named n))) e g) (text_setter_kept old new (slice_get old n.0) e)
accessor_kept old new (item p (symbol (Fresh k s))) e g = tt
accessor_kept old new (item p (integer n)) e g = tt
accessor_kept old new (item p (character c)) e g = tt
accessor_kept old new (item p (string bytes)) e g = tt
accessor_kept old new (item p (vector ds)) e g = tt
accessor_kept old new (item p nil) e g = tt
accessor_kept old new (item p (list ds t)) e g = tt

first_kept : (old new : List (List ℕ)) (a b c e f h : Bool) (o1 o2 o3 o4 o5 o6 o7 : Option SlotOption) → MaybeKept old new o1 → MaybeKept old new o2 → MaybeKept old new o3 →
    MaybeKept old new o4 → MaybeKept old new o5 → MaybeKept old new o6 → MaybeKept old new o7 →
    MaybeKept old new (if a then o1 else if b then o2 else if c then o3 else if e then o4 else if f then o5 else if h then o6 else o7)
first_kept old new true b c e f h o1 o2 o3 o4 o5 o6 o7 g1 g2 g3 g4 g5 g6 g7 = g1
first_kept old new false true c e f h o1 o2 o3 o4 o5 o6 o7 g1 g2 g3 g4 g5 g6 g7 = g2
first_kept old new false false true e f h o1 o2 o3 o4 o5 o6 o7 g1 g2 g3 g4 g5 g6 g7 = g3
first_kept old new false false false true f h o1 o2 o3 o4 o5 o6 o7 g1 g2 g3 g4 g5 g6 g7 = g4
first_kept old new false false false false true h o1 o2 o3 o4 o5 o6 o7 g1 g2 g3 g4 g5 g6 g7 = g5
first_kept old new false false false false false true o1 o2 o3 o4 o5 o6 o7 g1 g2 g3 g4 g5 g6 g7 = g6
first_kept old new false false false false false false o1 o2 o3 o4 o5 o6 o7 g1 g2 g3 g4 g5 g6 g7 = g7

option_kept : (old new : List (List ℕ)) (o d : Item) → Extends old new → WellFormed (length old) d → MaybeKept old new (slot_option old o d)
option_kept old new o d e g =
    first_kept old new (is_word old (codes ":initform") o) (is_word old (codes ":initarg") o) (is_word old (codes ":reader") o) (is_word old (codes ":writer") o) (is_word old (codes ":boundp") o) (is_word old (codes ":accessor") o)
    (Some (initform_of d)) (initarg_by (symbol_of d)) (method_by Reads (given_name old d)) (method_by Writes (given_name old d)) (method_by Asks (given_name old d)) (accessor_by old (symbol_of d)) (Some wrong_option)
    (tt, tt) (initarg_kept old new (symbol_of d)) (method_by_kept old new Reads _ (given_kept old new d e g)) (method_by_kept old new Writes _ (given_kept old new d e g))
    (method_by_kept old new Asks _ (given_kept old new d e g)) (accessor_kept old new d e g) tt

abbrev pub OptionsKept : (old new : List (List ℕ)) → Option (List SlotOption) → Type 0
OptionsKept old new None = Unit {0}
OptionsKept old new (Some os) = AllKept old new (functions_in os)

abbrev pub SlotKept : (old new : List (List ℕ)) → Option WrittenSlot → Type 0
SlotKept old new None = Unit {0}
SlotKept old new (Some x) = AllKept old new (functions_of x)

abbrev pub SlotsKept : (old new : List (List ℕ)) → Option (List WrittenSlot) → Type 0
SlotsKept old new None = Unit {0}
SlotsKept old new (Some xs) = AllKept old new (all_functions xs)

one_more_kept : (old new : List (List ℕ)) (o : Option SlotOption) (os : Option (List SlotOption)) → MaybeKept old new o → OptionsKept old new os → OptionsKept old new (option_and o os)
one_more_kept old new None os g h = tt
one_more_kept old new (Some o) None g h = tt
one_more_kept old new (Some o) (Some os) g h = both_kept old new (functions_of_option o) (functions_in os) g h

options_kept : (old new : List (List ℕ)) (ds : List Item) → Extends old new → AllOf (WellFormed (length old)) ds → OptionsKept old new (slot_options old ds)
options_kept old new [] e g = tt
options_kept old new (o ∷ []) e g = tt
options_kept old new (o ∷ d ∷ ds) e g =
    one_more_kept old new (slot_option old o d) (slot_options old ds) (option_kept old new o d e g.1.0) (options_kept old new ds e g.1.1)

slot_with_kept : (old new : List (List ℕ)) (p : Place) (n : Option Name) (os : Option (List SlotOption)) → OptionsKept old new os → SlotKept old new (slot_with p n os)
slot_with_kept old new p None os h = tt
slot_with_kept old new p (Some n) None h = tt
slot_with_kept old new p (Some n) (Some os) h = h

slot_list_kept : (old new : List (List ℕ)) (p : Place) (ds : Option (List Item)) → Extends old new → MaybeGood (length old) ds → SlotKept old new (slot_in_list old p ds)
slot_list_kept old new p None e g = tt
slot_list_kept old new p (Some []) e g = tt
slot_list_kept old new p (Some (d ∷ ds)) e g = slot_with_kept old new p (name_in (symbol_of d)) (slot_options old ds) (options_kept old new ds e g.1)

slot_kept : (old new : List (List ℕ)) (d : Item) (x : Option Symbol) → Extends old new → WellFormed (length old) d → SlotKept old new (slot_by old d x)
slot_kept old new d None e g = slot_list_kept old new (place_of d) (list_items d) e (good_parts (length old) d g)
slot_kept old new d (Some x) e g = slot_with_kept old new (place_of d) (name_of x) (Some []) tt

one_slot_kept : (old new : List (List ℕ)) (x : Option WrittenSlot) (xs : Option (List WrittenSlot)) → SlotKept old new x → SlotsKept old new xs → SlotsKept old new (slot_and x xs)
one_slot_kept old new None xs g h = tt
one_slot_kept old new (Some x) None g h = tt
one_slot_kept old new (Some x) (Some xs) g h = both_kept old new (functions_of x) (all_functions xs) g h

each_slot_kept : (old new : List (List ℕ)) (ds : List Item) → Extends old new → AllOf (WellFormed (length old)) ds → SlotsKept old new (each_slot old ds)
each_slot_kept old new [] e g = tt
each_slot_kept old new (d ∷ ds) e g =
    one_slot_kept old new (slot_by old d (symbol_of d)) (each_slot old ds) (slot_kept old new d (symbol_of d) e g.0) (each_slot_kept old new ds e g.1)

slots_kept : (old new : List (List ℕ)) (ds : Option (List Item)) → Extends old new → MaybeGood (length old) ds → SlotsKept old new (slots_in old ds)
slots_kept old new None e g = tt
slots_kept old new (Some ds) e g = each_slot_kept old new ds e g

-- whether the language or the prelude keeps one of the names

kept_name : (old new : List (List ℕ)) (a : StaticContext) (s : Tables) (u : Use) → slice_get old u.name.0 ≡ slice_get new u.name.0 → is_kept_name old a s u ≡ is_kept_name new a s u
kept_name old new a s u h =
    ap (λ (t : Option (List ℕ)). is_truth a s u.name || (a.spot.sited && (kept_by t || is_of_prelude s u.name))) h

some_kept : (old new : List (List ℕ)) (a : StaticContext) (s : Tables) (fs : List Function) → AllKept old new fs →
    list_any (is_kept_name old a s) (filter_map use_of fs) ≡ list_any (is_kept_name new a s) (filter_map use_of fs)
some_kept old new a s [] h = refl
some_kept old new a s (for_initform d ∷ fs) h = some_kept old new a s fs h.1
some_kept old new a s (for_method no_name k ∷ fs) h = some_kept old new a s fs h.1
some_kept old new a s (for_method unfit k ∷ fs) h = some_kept old new a s fs h.1
some_kept old new a s (for_method lacking k ∷ fs) h = some_kept old new a s fs h.1
some_kept old new a s (for_method (given n) k ∷ fs) h =
    ap (λ b. b || list_any (is_kept_name old a s) (filter_map use_of fs)) (kept_name old new a s (record { name = n; arguments = arguments_of k }) h.0)
    ∙ ap (λ b. is_kept_name new a s (record { name = n; arguments = arguments_of k }) || b) (some_kept old new a s fs h.1)

-- options of the class

nothing_else : (old new : List (List ℕ)) (ds : List Item) → Extends old new → AllOf (WellFormed (length old)) ds → abstract_option old ds ≡ abstract_option new ds
nothing_else old new [] e g = refl
nothing_else old new (d ∷ []) e g =
    ap (λ t. if is_text (codes "t") t then abstract true else if is_nil d then abstract false else no_option) (same_text old new d e g.0)
nothing_else old new (d ∷ f ∷ ds) e g = refl

class_option_later : (old new : List (List ℕ)) (ds : Option (List Item)) → Extends old new → MaybeGood (length old) ds → class_option old ds ≡ class_option new ds
class_option_later old new None e g = refl
class_option_later old new (Some []) e g = refl
class_option_later old new (Some (h ∷ ds)) e g =
    ap (λ t. if is_text (codes ":abstractp") t then abstract_option old ds
    else if (is_text (codes ":metaclass") t || is_text (codes ":generic-function-class") t) || is_text (codes ":method-combination") t then left_out
    else no_option) (same_text old new h e g.0)
    ∙ ap (λ o. if is_word new (codes ":abstractp") h then o else if is_left_out_option new h then left_out else no_option) (nothing_else old new ds e g.1)

class_options_later : (old new : List (List ℕ)) (ds : List Item) → Extends old new → AllOf (WellFormed (length old)) ds → class_options old ds ≡ class_options new ds
class_options_later old new [] e g = refl
class_options_later old new (d ∷ ds) e g =
    ap (λ o. o ∷ class_options old ds) (class_option_later old new (list_items d) e (good_parts (length old) d g.0))
    ∙ ap (λ os. class_option new (list_items d) ∷ os) (class_options_later old new ds e g.1)

-- the row

lacking_class : (names : List (List ℕ)) (a : StaticContext) (s : Tables) (p : Place) (d : Item) (n : Name) (cs : List WrittenSuper) (xs : List WrittenSlot) (os : List ClassOption) →
    lacks (all_functions xs) ≡ true → class_of names a s p d n cs xs os ≡ unnamed
lacking_class names a s p d n cs xs os h =
    ap (λ (b : Bool). if b then unnamed else defining a p
    (is_taken_class a s n || list_any (is_of_function a s) (uses xs))
    (is_reserved_class a s n || list_any (is_kept_name names a s) (uses xs))
    (class_checked a s p d n cs xs os)) h

class_of_later : (old new : List (List ℕ)) (a : StaticContext) (s : Tables) (p : Place) (d : Item) (n : Name) (cs : List WrittenSuper) (xs ys : List WrittenSlot) (os : List ClassOption) →
    (lacks (all_functions xs) ≡ true) ⊎ (xs ≡ ys) → AllKept old new (all_functions xs) → NodeStays (class_of old a s p d n cs xs os) (class_of new a s p d n cs ys os)
class_of_later old new a s p d n cs xs ys os h k =
    ⊎_elim (λ l. inl (lacking_class old a s p d n cs xs os l))
    (λ same. inr (ap (λ (b : Bool). if lacks (all_functions xs) then unnamed else defining a p
    (is_taken_class a s n || list_any (is_of_function a s) (uses xs)) (is_reserved_class a s n || b) (class_checked a s p d n cs xs os))
    (some_kept old new a s (all_functions xs) k)
    ∙ ap (λ (zs : List WrittenSlot). class_of new a s p d n cs zs os) same)) h

class_shaped_later : (old new : List (List ℕ)) (a : StaticContext) (s : Tables) (p : Place) (d : Item) (n : Option Name) (cs : Option (List WrittenSuper)) (xs ys : Option (List WrittenSlot)) (os : List ClassOption) →
    SlotsLater xs ys → SlotsKept old new xs → NodeStays (class_shaped old a s p d n cs xs os) (class_shaped new a s p d n cs ys os)
class_shaped_later old new a s p d None cs xs ys os h k = inr refl
class_shaped_later old new a s p d (Some n) None xs ys os h k = inr refl
class_shaped_later old new a s p d (Some n) (Some cs) None None os h k = inr refl
class_shaped_later old new a s p d (Some n) (Some cs) None (Some ys) os h k = absurd h
class_shaped_later old new a s p d (Some n) (Some cs) (Some xs) None os h k = absurd h
class_shaped_later old new a s p d (Some n) (Some cs) (Some xs) (Some ys) os h k =
    stays_if (are_options os) _ _ _ _ (class_of_later old new a s p d n cs xs ys os h k) (inr refl)

pub defclass_later : (old new : List (List ℕ)) (a : StaticContext) (s : Tables) (p : Place) (ds : List Item) → Extends old new → AllOf (WellFormed (length old)) ds →
    NodeStays (defclass_row old a s p ds) (defclass_row new a s p ds)
defclass_later old new a s p [] e g = inr refl
defclass_later old new a s p (d ∷ []) e g = inr refl
defclass_later old new a s p (d ∷ cs ∷ []) e g = inr refl
defclass_later old new a s p (d ∷ cs ∷ xs ∷ os) e g =
    subst (λ (o : List ClassOption). NodeStays (defclass_row old a s p (d ∷ cs ∷ xs ∷ os)) (class_shaped new a s p d (named (symbol_of d)) (supers_in (list_items cs)) (slots_in new (list_items xs)) o))
    (class_options_later old new os e g.1.1.1)
    (class_shaped_later old new a s p d (named (symbol_of d)) (supers_in (list_items cs)) (slots_in old (list_items xs)) (slots_in new (list_items xs)) (class_options old os)
    (slots_later old new (list_items xs) e (good_parts (length old) xs g.1.1.0)) (slots_kept old new (list_items xs) e (good_parts (length old) xs g.1.1.0)))
