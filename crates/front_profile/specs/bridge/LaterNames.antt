-- Texts, names and shapes of definitions under a later table of names: a name that the earlier table lacks is left open, and all else is the
-- same.
use Rattle.std.proofs.Common.{◌≡◌, ℕ, ◌+◌, nat_le, Bool, true, false, ◌||◌, List, [], ◌∷◌, ◌++◌, ◌⊎◌, inl, inr, Option, Some, None, if◌then◌else◌, length, refl, sym, ap, subst, ◌∙◌, arith}
use Rattle.std.specs.Prelude.{zero, suc, option_map, codes, slice_get}
use Rattle.std.specs.Str.{bytes_eq}
use Rattle.base.specs.declared.place.Place.{Place}
use Rattle.base.specs.declared.datum.Name.{Name}
use Rattle.base.specs.declared.datum.Symbol.{Symbol}
use Rattle.base.specs.declared.datum.Symbol.TheVariants.{Named, Fresh}
use Rattle.base.specs.Names.{Extends}
use Rattle.base.specs.Data.{Item, item, Content, integer, character, symbol, string, vector, nil, list}
use Rattle.base.specs.DataNames.{symbol_text, text_of, text_same}
use Rattle.base.specs.AllOf.{AllOf}
use Rattle.base.specs.WellFormedData.{WellFormed}
use Rattle.lang_derived.specs.Asked.{list_items, is_word, is_text, setf_text}
use Rattle.front_profile.specs.Shapes.{symbol_of}
use Rattle.front_profile.specs.GivenNames.{GivenName, no_name, unfit, lacking, given, number_of, in_table, longest_set, setter_of_text, setter_of_symbol, setter_in, named_by, given_name}
use Rattle.front_profile.specs.bridge.WellFormedParts.{MaybeGood, good_parts}

-- the name of a datum
pub same_text : (old new : List (List ℕ)) (d : Item) → Extends old new → WellFormed (length old) d → text_of old d ≡ text_of new d
same_text old new d e g = text_same old new e d g.named

pub same_word : (old new : List (List ℕ)) (text : List ℕ) (d : Item) → Extends old new → WellFormed (length old) d → is_word old text d ≡ is_word new text d
same_word old new text d e g = ap (is_text text) (same_text old new d e g)

-- the number of a text that is there stays

number_by : (b : Bool) (o n : Option ℕ) (i : ℕ) → ((j : ℕ) → o ≡ Some j → n ≡ Some j)
    → (if b then Some 0 else option_map (λ k. k + 1) o) ≡ Some i → (if b then Some 0 else option_map (λ k. k + 1) n) ≡ Some i
number_by true o n i f h = h
number_by false None n i f h = absurd (cc)
number_by false (Some j) n i f h = ap (option_map (λ k. k + 1)) (f j refl) ∙ h

number_in_front : (ts us : List (List ℕ)) (text : List ℕ) (i : ℕ) → number_of ts text ≡ Some i → number_of (ts ++ us) text ≡ Some i
number_in_front [] us text i h = absurd (cc)
number_in_front (t ∷ ts) us text i h =
    number_by (bytes_eq t text) (number_of ts text) (number_of (ts ++ us) text) i (λ j k. number_in_front ts us text j k) h

-- and what stands at that number stays

text_by : (ts us : List (List ℕ)) (t : List ℕ) (b : Bool) (o : Option ℕ) (i : ℕ) → ((j : ℕ) → o ≡ Some j → slice_get (ts ++ us) j ≡ slice_get ts j)
    → (if b then Some 0 else option_map (λ k. k + 1) o) ≡ Some i → slice_get (t ∷ (ts ++ us)) i ≡ slice_get (t ∷ ts) i
text_by ts us t true o zero f h = refl
text_by ts us t true o (suc i) f h = absurd (cc)
text_by ts us t false None i f h = absurd (cc)
text_by ts us t false (Some j) zero f h = let e : j + 1 ≡ 0 = cc in absurd (omega (arith, e))
text_by ts us t false (Some j) (suc i) f h =
    let e : j + 1 ≡ suc i = cc in let same : j ≡ i = omega (arith, e) in f i (ap (λ k. Some k) same)

text_in_front : (ts us : List (List ℕ)) (text : List ℕ) (i : ℕ) → number_of ts text ≡ Some i → slice_get (ts ++ us) i ≡ slice_get ts i
text_in_front [] us text i h = absurd (cc)
text_in_front (t ∷ ts) us text i h = text_by ts us t (bytes_eq t text) (number_of ts text) i (λ j k. text_in_front ts us text j k) h

-- a name that is lacking is a name in the later table, or lacking there too
abbrev pub is_some_name : GivenName → Bool
is_some_name no_name = false
is_some_name unfit = false
is_some_name lacking = true
is_some_name (given n) = true

abbrev pub GivenLater : GivenName → GivenName → Type 0
GivenLater x y = ((x ≡ lacking) × (is_some_name y ≡ true)) ⊎ (x ≡ y)

some_name : (n : Option ℕ) → is_some_name (in_table n) ≡ true
some_name None = refl
some_name (Some i) = refl

table_later : (o n : Option ℕ) → ((i : ℕ) → o ≡ Some i → n ≡ Some i) → GivenLater (in_table o) (in_table n)
table_later None n h = inl (refl, some_name n)
table_later (Some i) n h = inr (ap in_table (sym (h i refl)))

in_later_table : (old new : List (List ℕ)) (text : List ℕ) → Extends old new → GivenLater (in_table (number_of old text)) (in_table (number_of new text))
in_later_table old new text e =
    table_later (number_of old text) (number_of new text)
    (λ i h. subst (λ ts. number_of ts text ≡ Some i) (sym e.begins) (number_in_front old e.added text i h))

given_if : (b : Bool) (x y z : GivenName) → GivenLater x y → GivenLater (if b then x else z) (if b then y else z)
given_if true x y z h = h
given_if false x y z h = inr refl

pub text_setter_later : (old new : List (List ℕ)) (text : Option (List ℕ)) → Extends old new → GivenLater (setter_of_text old text) (setter_of_text new text)
text_setter_later old new None e = inr refl
text_setter_later old new (Some text) e =
    given_if (nat_le (length text) longest_set) _ _ unfit (in_later_table old new (setf_text text) e)

-- a setter by a text that is the same
setter_by_text : (old new : List (List ℕ)) (t u : Option (List ℕ)) → Extends old new → t ≡ u → GivenLater (setter_of_text old t) (setter_of_text new u)
setter_by_text old new t u e same = subst (λ (x : Option (List ℕ)). GivenLater (setter_of_text old t) (setter_of_text new x)) same (text_setter_later old new t e)

setter_later : (old new : List (List ℕ)) (d : Item) → Extends old new → WellFormed (length old) d → GivenLater (setter_of_symbol old (symbol_of d)) (setter_of_symbol new (symbol_of d))
setter_later old new (item p (symbol x)) e g = setter_by_text old new (symbol_text old x) (symbol_text new x) e (same_text old new (item p (symbol x)) e g)
setter_later old new (item p (integer n)) e g = inr refl
setter_later old new (item p (character c)) e g = inr refl
setter_later old new (item p (string bytes)) e g = inr refl
setter_later old new (item p (vector ds)) e g = inr refl
setter_later old new (item p nil) e g = inr refl
setter_later old new (item p (list ds t)) e g = inr refl

given_by_both : (b c : Bool) (x y z : GivenName) → b ≡ c → GivenLater x y → GivenLater (if b then x else z) (if c then y else z)
given_by_both b c x y z same h = subst (λ (k : Bool). GivenLater (if b then x else z) (if k then y else z)) same (given_if b x y z h)

setter_in_later : (old new : List (List ℕ)) (ds : Option (List Item)) → Extends old new → MaybeGood (length old) ds → GivenLater (setter_in old ds) (setter_in new ds)
setter_in_later old new None e g = inr refl
setter_in_later old new (Some []) e g = inr refl
setter_in_later old new (Some (h ∷ [])) e g = inr refl
setter_in_later old new (Some (h ∷ d ∷ [])) e g =
    given_by_both (is_word old (codes "setf") h) (is_word new (codes "setf") h) _ _ no_name
    (same_word old new (codes "setf") h e g.0) (setter_later old new d e g.1.0)
setter_in_later old new (Some (h ∷ d ∷ f ∷ ds)) e g = inr refl

named_later : (old new : List (List ℕ)) (d : Item) (x : Option Symbol) → Extends old new → WellFormed (length old) d → GivenLater (named_by old d x) (named_by new d x)
named_later old new d None e g = setter_in_later old new (list_items d) e (good_parts (length old) d g)
named_later old new d (Some (Named n)) e g = inr refl
named_later old new d (Some (Fresh k s)) e g = inr refl

pub given_later : (old new : List (List ℕ)) (d : Item) → Extends old new → WellFormed (length old) d → GivenLater (given_name old d) (given_name new d)
given_later old new d e g = named_later old new d (symbol_of d) e g

-- a name that is given has the same text under both tables
abbrev pub GivenKept : (old new : List (List ℕ)) → GivenName → Type 0
GivenKept old new no_name = Unit {0}
GivenKept old new unfit = Unit {0}
GivenKept old new lacking = Unit {0}
GivenKept old new (given n) = slice_get old n.0 ≡ slice_get new n.0

table_kept : (old new : List (List ℕ)) (text : List ℕ) (o : Option ℕ) → Extends old new → o ≡ number_of old text → GivenKept old new (in_table o)
table_kept old new text None e h = tt
table_kept old new text (Some i) e h =
    sym (subst (λ ts. slice_get ts i ≡ slice_get old i) (sym e.begins) (text_in_front old e.added text i (sym h)))

kept_if : (old new : List (List ℕ)) (b : Bool) (x y : GivenName) → GivenKept old new x → GivenKept old new y → GivenKept old new (if b then x else y)
kept_if old new true x y g h = g
kept_if old new false x y g h = h

pub text_setter_kept : (old new : List (List ℕ)) (text : Option (List ℕ)) → Extends old new → GivenKept old new (setter_of_text old text)
text_setter_kept old new None e = tt
text_setter_kept old new (Some text) e =
    kept_if old new (nat_le (length text) longest_set) _ unfit (table_kept old new (setf_text text) (number_of old (setf_text text)) e refl) tt

setter_kept : (old new : List (List ℕ)) (x : Option Symbol) → Extends old new → GivenKept old new (setter_of_symbol old x)
setter_kept old new None e = tt
setter_kept old new (Some x) e = text_setter_kept old new (symbol_text old x) e

setter_in_kept : (old new : List (List ℕ)) (ds : Option (List Item)) → Extends old new → GivenKept old new (setter_in old ds)
setter_in_kept old new None e = tt
setter_in_kept old new (Some []) e = tt
setter_in_kept old new (Some (h ∷ [])) e = tt
setter_in_kept old new (Some (h ∷ d ∷ [])) e =
    kept_if old new (is_word old (codes "setf") h) _ no_name (setter_kept old new (symbol_of d) e) tt
setter_in_kept old new (Some (h ∷ d ∷ f ∷ ds)) e = tt

pub given_kept : (old new : List (List ℕ)) (d : Item) → Extends old new → WellFormed (length old) d → GivenKept old new (given_name old d)
given_kept old new (item p (symbol (Named n))) e g = same_text old new (item p (symbol (Named n))) e g
given_kept old new (item p (symbol (Fresh k s))) e g = tt
given_kept old new (item p (integer n)) e g = setter_in_kept old new None e
given_kept old new (item p (character c)) e g = setter_in_kept old new None e
given_kept old new (item p (string bytes)) e g = setter_in_kept old new None e
given_kept old new (item p (vector ds)) e g = setter_in_kept old new None e
given_kept old new (item p nil) e g = tt
given_kept old new (item p (list ds t)) e g = setter_in_kept old new (list_items (item p (list ds t))) e
