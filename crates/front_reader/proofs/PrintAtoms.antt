-- The printed spellings without data inside spell what they are printed for.
use Rattle.std.specs.Prelude.{◌≡◌, ℕ, ◌≤◌, Bool, true, false, not, ◌&&◌, ◌||◌, ◌==◌, List, [], ◌∷◌, length, map, if◌then◌else◌, codes, refl}
use Rattle.std.specs.List.{list_all}
use Rattle.std.proofs.Common.{◌∙◌, ap, subst, lit≤}
use Rattle.front_reader.specs.Characters.{begins, is_token, is_capital, is_printed, folded, digit_value}
use Rattle.front_reader.specs.Tokens.{IsToken, is_integer, is_float, is_dot}
use Rattle.front_reader.specs.Atoms.{a_character, a_symbol, a_string, may_stand, Inside, nothing, plain, escaped, Spells, token, barred, quoted, marked, lettered}
use Rattle.front_reader.specs.Printing.{stays, is_bare, escapes, between, name_spelling}

and_true : (a b : Bool) → (a && b) ≡ true → (a ≡ true) × (b ≡ true)
and_true true b h = (refl, h)
and_true false b h = absurd (cc)

or_false : (a b : Bool) → (a || b) ≡ false → (a ≡ false) × (b ≡ false)
or_false true b h = absurd (cc)
or_false false b h = (refl, h)

not_true : (a : Bool) → not a ≡ true → a ≡ false
not_true true h = absurd (cc)
not_true false h = refl

-- bytes that may stand between quotes are what their escapes stand for
inside : (quote : ℕ) (bs : List ℕ) → list_all (may_stand quote) bs ≡ true → Inside quote (escapes quote bs) bs
inside quote [] h = nothing
inside quote (b ∷ bs) h =
    let both : (may_stand quote b ≡ true) × (list_all (may_stand quote) bs ≡ true) = and_true _ _ h in
    by (b == quote || b == 92) refl both.0 (inside quote bs both.1)
  where
    by : (e : Bool) → (b == quote || b == 92) ≡ e → may_stand quote b ≡ true → Inside quote (escapes quote bs) bs
        → Inside quote (if e then 92 ∷ b ∷ escapes quote bs else b ∷ escapes quote bs) (b ∷ bs)
    by true is may rest = escaped b (escapes quote bs) bs may rest
    by false is may rest =
        let apart : ((b == quote) ≡ false) × ((b == 92) ≡ false) = or_false _ _ is in
        plain b (escapes quote bs) bs apart.0 apart.1 may rest

-- any byte may stand in a string
any_byte : (bs : List ℕ) → list_all (may_stand 34) bs ≡ true
any_byte [] = refl
any_byte (b ∷ bs) = any_byte bs

pub string_spelled : (bs after : List ℕ) → Spells (between 34 bs) after (a_string bs)
string_spelled bs after = quoted (escapes 34 bs) after bs (inside 34 bs (any_byte bs))

printed_stands : (bs : List ℕ) → list_all is_printed bs ≡ true → list_all (may_stand 124) bs ≡ true
printed_stands [] h = refl
printed_stands (b ∷ bs) h = h

-- what is not folded
folded_stays : (b : ℕ) → is_capital b ≡ false → folded b ≡ b
unfolding folded
folded_stays b h = rw h refl

all_tokens : (w : List ℕ) → list_all stays w ≡ true → (list_all is_token w ≡ true) × (map folded w ≡ w)
all_tokens [] h = (refl, refl)
all_tokens (b ∷ bs) h =
    let both : (stays b ≡ true) × (list_all stays bs ≡ true) = and_true _ _ h in
    let here : (is_token b ≡ true) × (not (is_capital b) ≡ true) = and_true _ _ both.0 in
    let rest : (list_all is_token bs ≡ true) × (map folded bs ≡ bs) = all_tokens bs both.1 in
    let small : is_capital b ≡ false = not_true _ here.1 in
    (rw here.0 rest.0, ap (λ c. c ∷ map folded bs) (folded_stays b small) ∙ ap (λ cs. b ∷ cs) rest.1)

bare_spelled : (w after : List ℕ) → begins is_token after ≡ false → length w ≤ 256 → is_bare w ≡ true → Spells w after (a_symbol w)
unfolding is_bare
bare_spelled w after ends short h =
    let one : (begins is_token w ≡ true) × ((list_all stays w && (not (is_integer 10 w) && (not (is_float w) && not (is_dot w)))) ≡ true) = and_true _ _ h in
    let two : (list_all stays w ≡ true) × ((not (is_integer 10 w) && (not (is_float w) && not (is_dot w))) ≡ true) = and_true _ _ one.1 in
    let three : (not (is_integer 10 w) ≡ true) × ((not (is_float w) && not (is_dot w)) ≡ true) = and_true _ _ two.1 in
    let four : (not (is_float w) ≡ true) × (not (is_dot w) ≡ true) = and_true _ _ three.1 in
    let all : (list_all is_token w ≡ true) × (map folded w ≡ w) = all_tokens w two.0 in
    let is : IsToken w after = record { some = one.0; all = all.0; ends = ends } in
    let P : List ℕ → Type 0 = λ name. Spells w after (a_symbol name) in
    subst P all.1 (token w after is (not_true _ three.0) (not_true _ four.0) (not_true _ four.1) short)

pub name_spelled : (text after : List ℕ) → begins is_token after ≡ false → length text ≤ 256 → list_all is_printed text ≡ true
    → Spells (name_spelling text) after (a_symbol text)
name_spelled text after ends short printed = by (is_bare text) refl
  where
    by : (bare : Bool) → is_bare text ≡ bare → Spells (if bare then text else between 124 text) after (a_symbol text)
    by true is = bare_spelled text after ends short is
    by false is = barred (escapes 124 text) after text (inside 124 text (printed_stands text printed)) short

pub nil_spelled : (after : List ℕ) → begins is_token after ≡ false → Spells (codes "nil") after (a_symbol (codes "nil"))
unfolding is_bare is_token is_float digit_value
nil_spelled after ends = bare_spelled (codes "nil") after ends (lit≤ tt) refl

pub character_spelled : (c : ℕ) (after : List ℕ) → begins is_token after ≡ false → Spells (35 ∷ 92 ∷ c ∷ []) after (a_character c)
character_spelled c after ends = by (is_token c) refl
  where
    by : (b : Bool) → is_token c ≡ b → Spells (35 ∷ 92 ∷ c ∷ []) after (a_character c)
    by true is = lettered c after (record { some = is; all = rw is refl; ends = ends })
    by false is = marked c after is
