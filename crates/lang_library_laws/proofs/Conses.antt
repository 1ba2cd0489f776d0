-- The conses of lists, and which of them are apart from which.
use Rattle.std.proofs.Common.{◌≡◌, ◌≤◌, ◌<◌, ℕ, suc, List, [], ◌∷◌, ◌++◌, map, refl, sym, ap, subst, ◌∙◌, ◌⊎◌, inl, inr, ⊎_elim, Some, length, slice_get, slice_set, le_refl, le_trans, arith}
use Rattle.std.specs.Prelude.{⊤}
use Rattle.std.proofs.lemmas.Option.{slice_get_within}
use Rattle.lang_meaning.specs.Values.{Value, nil, object}
use Rattle.lang_meaning.specs.Objects.{Object, cons}
use Rattle.lang_library_laws.specs.Lists.{IsListFrom, IsProperList, HasConses, IsNoneOf, AreFrom}
use Rattle.lang_library_laws.specs.Applications.{IsExtended}
use Rattle.lang_library_laws.proofs.Frames.{get_kept}
use Rattle.lang_library_laws.proofs.Falling.{turned_onto, IsFalling, get_other}

abbrev pub Conses : Type 0
Conses = List (ℕ × Value)

abbrev pub items_in : Conses → List Value
items_in cs = map (λ c. c.1) cs

pub items_length : (cs : Conses) → length (items_in cs) ≡ length cs
items_length [] = refl
items_length (c ∷ cs) = ap suc (items_length cs)

pub items_turned : (cs ds : Conses) → items_in (turned_onto cs ds) ≡ turned_onto (items_in cs) (items_in ds)
items_turned [] ds = refl
items_turned (c ∷ cs) ds = items_turned cs (c ∷ ds)

-- conses from a number on are a list from that number on
pub conses_list : (store : List Object) (first : ℕ) (v : Value) (cs : Conses) → AreFrom first cs → HasConses store v cs → IsListFrom first store v (items_in cs)
conses_list store first v [] f h = h
conses_list store first v (c ∷ cs) f h = (c.0, h.0, h.1, f.0, h.2, conses_list store first h.0 cs f.1 h.3)

pub from_nothing : (cs : Conses) → AreFrom 0 cs
from_nothing [] = tt
from_nothing (c ∷ cs) = (omega arith, from_nothing cs)

pub from_turned : (first : ℕ) (cs ds : Conses) → AreFrom first cs → AreFrom first ds → AreFrom first (turned_onto cs ds)
from_turned first [] ds f g = g
from_turned first (c ∷ cs) ds f g = from_turned first cs (c ∷ ds) f.1 (f.0, g)

-- what does not have one of the numbers from the first up to another
abbrev pub AreBeyond : (first above : ℕ) → Conses → Type 0
AreBeyond first above [] = ⊤
AreBeyond first above (c ∷ cs) = ((c.0 < first) ⊎ (above ≤ c.0)) × AreBeyond first above cs

-- none stands twice, and none among the others
abbrev pub AreApart : Conses → (others : Conses) → Type 0
AreApart [] ds = ⊤
AreApart (c ∷ cs) ds = IsNoneOf c.0 ds × AreApart cs (c ∷ ds)

-- what was there before is beyond what was made since
pub conses_before : {kept store : List Object} → IsExtended Object kept store → (first above : ℕ) → length kept ≤ first → (v : Value) (items : List Value)
    → IsProperList kept v items → (cs : Conses) × (items_in cs ≡ items) × HasConses store v cs × AreBeyond first above cs
conses_before {kept} {store} e first above b v [] h = ([], refl, h, tt)
conses_before {kept} {store} e first above b v (x ∷ xs) h =
    let others : (cs : Conses) × (items_in cs ≡ xs) × HasConses store h.1 cs × AreBeyond first above cs = conses_before e first above b h.1 xs h.5 in
    let made : slice_get kept h.0 ≡ Some (cons x h.1) = h.4 in (
      (h.0, x) ∷ others.0,
      ap (λ us. x ∷ us) others.1,
      (h.1, h.2, get_kept e h.0 _ made, others.2),
      (inl (le_trans (slice_get_within kept h.0 _ made) b), others.3),
    )

-- conses with falling numbers are apart from what is beyond them
pub none_beyond : (i first above : ℕ) → first ≤ i → i < above → (ds : Conses) → AreBeyond first above ds → IsNoneOf i ds
none_beyond i first above f a [] b = tt
none_beyond i first above f a (d ∷ ds) b =
    (λ e. ⊎_elim (λ l. absurd (omega (arith, e, l, f))) (λ g. absurd (omega (arith, e, g, a))) b.0, none_beyond i first above f a ds b.1)

nearer : (i first above : ℕ) → i < above → (ds : Conses) → AreBeyond first above ds → AreBeyond first i ds
nearer i first above a [] b = tt
nearer i first above a (d ∷ ds) b = (⊎_elim (λ l. inl l) (λ g. inr (omega (arith, g, a))) b.0, nearer i first above a ds b.1)

pub conses_falling : (store : List Object) (first above : ℕ) (v : Value) (items : List Value) → IsFalling first above store v items
    → (cs : Conses) × (items_in cs ≡ items) × HasConses store v cs × AreFrom first cs × ((ds : Conses) → AreBeyond first above ds → AreApart cs ds)
conses_falling store first above v [] h = ([], refl, h, tt, λ ds b. tt)
conses_falling store first above v (x ∷ xs) h =
    let i : ℕ = h.0 in
    let others : (cs : Conses) × (items_in cs ≡ xs) × HasConses store h.1 cs × AreFrom first cs × ((ds : Conses) → AreBeyond first i ds → AreApart cs ds) =
    conses_falling store first i h.1 xs h.6 in (
      (i, x) ∷ others.0,
      ap (λ us. x ∷ us) others.1,
      (h.1, h.2, h.5, others.2),
      (h.3, others.3),
      λ ds b. (none_beyond i first above h.3 h.4 ds b, others.4 ((i, x) ∷ ds) (inr (le_refl i), nearer i first above h.4 ds b)),
    )

-- a cons among the others is none of those in front
none_in_front : (c : ℕ × Value) (cs front ds : Conses) → AreApart cs (front ++ c ∷ ds) → IsNoneOf c.0 cs
none_in_front c [] front ds a = tt
none_in_front c (e ∷ cs) front ds a = (λ same. other front a.0 (sym same), none_in_front c cs (e ∷ front) ds a.1)
  where
    other : (front : Conses) → IsNoneOf e.0 (front ++ c ∷ ds) → e.0 ≡ c.0 → ⊥
    other [] n same = n.0 same
    other (f ∷ front) n same = other front n.1 same

pub none_behind : (c : ℕ × Value) (cs ds : Conses) → AreApart (c ∷ cs) ds → IsNoneOf c.0 cs
none_behind c cs ds a = none_in_front c cs [] ds a.1

-- where another object changes, they stay
pub conses_changed : (store : List Object) (i : ℕ) (o : Object) (v : Value) (cs : Conses) → IsNoneOf i cs → HasConses store v cs → HasConses (slice_set store i o) v cs
conses_changed store i o v [] n h = h
conses_changed store i o v (c ∷ cs) n h = (h.0, h.1, get_other store i c.0 o (λ e. n.0 (sym e)) ∙ h.2, conses_changed store i o h.0 cs n.1 h.3)

-- two lists that begin with one cons are equally long, so no cons of a list stands in it twice
one_length : (store : List Object) (v : Value) (cs ds : Conses) → HasConses store v cs → HasConses store v ds → length cs ≡ length ds
one_length store v [] [] h g = refl
one_length store v [] (d ∷ ds) h g = let no : nil ≡ object d.0 = sym h ∙ g.1 in absurd (cc no)
one_length store v (c ∷ cs) [] h g = let no : nil ≡ object c.0 = sym g ∙ h.1 in absurd (cc no)
one_length store v (c ∷ cs) (d ∷ ds) h g =
    let both : object c.0 ≡ object d.0 = sym h.1 ∙ g.1 in
    let same : c.0 ≡ d.0 = cc both in
    let made : Some (cons c.1 h.0) ≡ Some (cons d.1 g.0) = sym h.2 ∙ ap (slice_get store) same ∙ g.2 in
    let rest : h.0 ≡ g.0 = cc made in
    ap suc (one_length store h.0 cs ds h.3 (subst (λ u. HasConses store u ds) (sym rest) g.3))

none_shorter : (store : List Object) (i : ℕ) (whole : Conses) → HasConses store (object i) whole → (v : Value) (cs : Conses) → HasConses store v cs
    → length cs < length whole → IsNoneOf i cs
none_shorter store i whole w v [] h less = tt
none_shorter store i whole w v (c ∷ cs) h less = (
  λ same.
      let here : HasConses store (object i) (c ∷ cs) = (h.0, ap object same, h.2, h.3) in
      let equal : length (c ∷ cs) ≡ length whole = one_length store (object i) (c ∷ cs) whole here w in
      absurd (omega (arith, equal, less)),
  none_shorter store i whole w h.0 cs h.3 (omega (arith, less)),
)

-- none of these stands among those
abbrev NoneAmong : Conses → Conses → Type 0
NoneAmong [] cs = Unit {0}
NoneAmong (d ∷ ds) cs = IsNoneOf d.0 cs × NoneAmong ds cs

first_apart : (c : ℕ × Value) (cs ds : Conses) → NoneAmong ds (c ∷ cs) → IsNoneOf c.0 ds
first_apart c cs [] a = tt
first_apart c cs (d ∷ ds) a = (λ e. a.0.0 (sym e), first_apart c cs ds a.1)

none_later : (c : ℕ × Value) (cs ds : Conses) → NoneAmong ds (c ∷ cs) → NoneAmong ds cs
none_later c cs [] a = tt
none_later c cs (d ∷ ds) a = (a.0.1, none_later c cs ds a.1)

apart_from : (store : List Object) (v : Value) (cs ds : Conses) → HasConses store v cs → NoneAmong ds cs → AreApart cs ds
apart_from store v [] ds h a = tt
apart_from store v (c ∷ cs) ds h a =
    let whole : HasConses store (object c.0) (c ∷ cs) = (h.0, refl, h.2, h.3) in (
      first_apart c cs ds a,
      apart_from store h.0 cs (c ∷ ds) h.3 (none_shorter store c.0 (c ∷ cs) whole h.0 cs h.3 (omega arith), none_later c cs ds a),
    )

pub conses_apart : (store : List Object) (v : Value) (cs : Conses) → HasConses store v cs → AreApart cs []
conses_apart store v cs h = apart_from store v cs [] h tt
