-- What the code takes for a lexeme is the grammar's, both ways.
use Rattle.std.proofs.Common.{◌≡◌, ℕ, ◌+◌, ◌<◌, ◌≤◌, true, false, ◌==◌, nat_lt, List, [], ◌∷◌, ◌++◌, length, take, drop, Some, refl, ap, subst, ◌∙◌, append_assoc, arith, if◌then◌else◌, length-append}
use Rattle.std.proofs.lemmas.List.{length-map}
use Rattle.std.specs.Prelude.{map, codes}
use Rattle.std.proofs.Math.Seq.{take-append_seam}
use Rattle.std.proofs.lemmas.Bool.{le-ltb, lt-ltb}
use Rattle.front_reader.specs.declared.gap.Mode.TheVariants.{Between}
use Rattle.front_reader.specs.declared.gap.Skipped.TheVariants.{Ends}
use Rattle.front_reader.specs.declared.lexeme.Lexeme.{Lexeme}
use Rattle.front_reader.specs.declared.lexeme.Lexeme.TheVariants.{Close, Dot, Open, Integer, Character, Token, Bar, Text}
use Rattle.front_reader.specs.declared.lexeme.Lexed.TheVariants.{Taken}
use Rattle.front_reader.specs.declared.quoted.Quoted.TheVariants.{Closed}
use Rattle.front_reader.specs.Characters.{is_blank, is_token, folded, begins, digit_value}
use Rattle.front_reader.specs.Tokens.{IsToken, is_integer, integer_value, is_wide, is_float, is_dot}
use Rattle.front_reader.specs.Atoms.{Atom, an_integer, a_character, a_symbol, a_string, Inside, binary, octal, hexadecimal, Spells, decimal, token, barred, quoted, based, marked, lettered, space, newline}
use Rattle.front_reader.specs.bridge.Lexemes.{skip, lex, token_run, token_lexed, mark_lexed, sharp_lexed, based_lexed, name_lexed, quoted_from, atom_of}
use Rattle.front_reader.proofs.TokenRuns.{token_no_gap, token_run-all, token_taken}
pub use Rattle.front_reader.proofs.Taking.{opening_bytes, OpeningEnds}
use Rattle.front_reader.proofs.Taking.{takes, takes_atom, takes_close, takes_dot, takes_open, opening_some}
use Rattle.front_reader.specs.declared.opening.Opening.{Opening}
use Rattle.front_reader.specs.declared.opening.Opening.TheVariants.{List as ListOpening, Vector as VectorOpening, Before}
use Rattle.front_reader.specs.declared.opening.Prefix.TheVariants.{Quote, Quasiquote, Unquote, UnquoteSplicing, Function}
use Rattle.front_reader.proofs.Taking.{Takes, spells-taken}
use Rattle.front_reader.proofs.Quotes.{inside-closed, inside-unescaped, between-inside}

-- ---- from the grammar to the bridge

-- the bytes are one lexeme, which spells the atom, with no gap before it
pub record LexesAs (b after : List ℕ) (a : Atom) : Type 0 where
  pub lexeme : Lexeme
  pub lexes : lex (b ++ after) ≡ Taken (length b) lexeme
  pub spells : atom_of lexeme b ≡ Some a
  pub no_gap : skip Between 0 0 (b ++ after) ≡ Ends 0
  pub some : 0 < length b

-- a token is lexed as one
pub lex-token : (w after : List ℕ) → IsToken w after → lex (w ++ after) ≡ token_lexed w
unfolding lex
lex-token [] after t = absurd (let no : false ≡ true = t.some in cc)
lex-token (b ∷ bs) after t = rw (t.some, token_taken (b ∷ bs) after t) refl

pub token-no_gap : (w after : List ℕ) → IsToken w after → skip Between 0 0 (w ++ after) ≡ Ends 0
token-no_gap [] after t = absurd (let no : false ≡ true = t.some in cc)
token-no_gap (b ∷ bs) after t = token_no_gap b (bs ++ after) t.some

pub token-some : (w after : List ℕ) → IsToken w after → 0 < length w
token-some [] after t = absurd (let no : false ≡ true = t.some in cc)
token-some (b ∷ bs) after t = omega arith

-- a `#` with a byte behind it that is no bar begins no gap
pub sharp-no_gap : (c : ℕ) (bs : List ℕ) → (c == 124) ≡ false → skip Between 0 0 (35 ∷ c ∷ bs) ≡ Ends 0
unfolding skip is_blank
sharp-no_gap c bs e = rw e refl

lexes-decimal : (w after : List ℕ) → IsToken w after → is_integer 10 w ≡ true → is_wide 10 w ≡ false → LexesAs w after (an_integer (integer_value 10 w))
unfolding token_lexed
lexes-decimal w after t i n = record {
  lexeme = Integer (integer_value 10 w);
  lexes = lex-token w after t ∙ rw (i, n) refl;
  spells = refl;
  no_gap = token-no_gap w after t;
  some = token-some w after t;
}

lexes-token : (w after : List ℕ) → IsToken w after → is_integer 10 w ≡ false → is_float w ≡ false → is_dot w ≡ false → length w ≤ 256 → LexesAs w after (a_symbol (map folded w))
unfolding token_lexed
lexes-token w after t i f d n = record {
  lexeme = Token;
  lexes = lex-token w after t ∙ rw (i, f, d, le-ltb 256 (length w) n) refl;
  spells = refl;
  no_gap = token-no_gap w after t;
  some = token-some w after t;
}

-- behind the first quote the other one comes
closed_at : (quote : ℕ) (bs content after : List ℕ) → (92 == quote) ≡ false → Inside quote bs content → quoted_from quote false 0 ((bs ++ quote ∷ []) ++ after) ≡ quoted_from quote false 0 (bs ++ quote ∷ after)
closed_at quote bs content after n s = ap (quoted_from quote false 0) (append_assoc bs (quote ∷ []) after)

lexes-barred : (bs after name : List ℕ) → Inside 124 bs name → length name ≤ 256 → LexesAs (124 ∷ (bs ++ 124 ∷ [])) after (a_symbol name)
unfolding lex mark_lexed is_token skip is_blank
lexes-barred bs after name s n =
    let front : (bs ++ 124 ∷ []) ++ after ≡ bs ++ 124 ∷ after = append_assoc bs (124 ∷ []) after in
    let closed : quoted_from 124 false 0 (bs ++ 124 ∷ after) ≡ Closed (length bs) = inside-closed 124 bs name after 0 refl s ∙ ap Closed (omega arith) in
    record {
      lexeme = Bar;
      lexes = rw (front, closed, take-append_seam bs (124 ∷ after), inside-unescaped 124 bs name s, le-ltb 256 (length name) n) (ap (λ k. Taken k Bar) (omega (arith, length-append bs (124 ∷ []))));
      spells = ap (λ x. Some (a_symbol x)) (between-inside 124 bs name s);
      no_gap = refl;
      some = omega arith;
    }

lexes-quoted : (bs after content : List ℕ) → Inside 34 bs content → LexesAs (34 ∷ (bs ++ 34 ∷ [])) after (a_string content)
unfolding lex mark_lexed is_token skip is_blank
lexes-quoted bs after content s =
    let front : (bs ++ 34 ∷ []) ++ after ≡ bs ++ 34 ∷ after = append_assoc bs (34 ∷ []) after in
    let closed = inside-closed 34 bs content after 0 refl s in
    record {
      lexeme = Text;
      lexes = rw (front, closed) (ap (λ k. Taken k Text) (omega (arith, length-append bs (34 ∷ []))));
      spells = ap (λ x. Some (a_string x)) (between-inside 34 bs content s);
      no_gap = refl;
      some = omega arith;
    }

lexes-based : (letter base : ℕ) (w after : List ℕ) → (letter == 124) ≡ false → sharp_lexed (letter ∷ (w ++ after)) ≡ based_lexed base (take (token_run (w ++ after)) (w ++ after)) → IsToken w after → is_integer base w ≡ true → is_wide base w ≡ false → LexesAs (35 ∷ letter ∷ w) after (an_integer (integer_value base w))
unfolding lex mark_lexed is_token
lexes-based letter base w after bar h t i n = record {
  lexeme = Integer (integer_value base w);
  lexes = h ∙ rw (token_taken w after t, i, n) (ap (λ k. Taken k (Integer (integer_value base w))) (omega arith));
  spells = refl;
  no_gap = sharp-no_gap letter (w ++ after) bar;
  some = omega arith;
}

lexes-named : (w after : List ℕ) (c : ℕ) → IsToken w after → 1 < length w → name_lexed w ≡ Taken (length w + 2) (Character c) → LexesAs (35 ∷ 92 ∷ w) after (a_character c)
unfolding lex mark_lexed sharp_lexed is_token
lexes-named [] after c t n h = absurd (omega (arith, n))
lexes-named (b ∷ bs) after c t n h = record {
  lexeme = Character c;
  lexes =
      ap (λ k. if nat_lt 1 k then name_lexed (take k (b ∷ (bs ++ after))) else Taken 3 (Character b)) (token_run-all (b ∷ bs) after t.all t.ends)
      ∙ rw (lt-ltb 1 (length (b ∷ bs)) n) (ap name_lexed (take-append_seam (b ∷ bs) after) ∙ h ∙ ap (λ k. Taken k (Character c)) (omega arith));
  spells = refl;
  no_gap = sharp-no_gap 92 ((b ∷ bs) ++ after) refl;
  some = omega arith;
}

lexes-marked : (b : ℕ) (after : List ℕ) → is_token b ≡ false → LexesAs (35 ∷ 92 ∷ b ∷ []) after (a_character b)
unfolding lex mark_lexed sharp_lexed is_token token_run
lexes-marked b after e = record {
  lexeme = Character b;
  lexes = rw e refl;
  spells = refl;
  no_gap = sharp-no_gap 92 (b ∷ after) refl;
  some = omega arith;
}

lexes-lettered : (b : ℕ) (after : List ℕ) → IsToken (b ∷ []) after → LexesAs (35 ∷ 92 ∷ b ∷ []) after (a_character b)
unfolding lex mark_lexed sharp_lexed is_token
lexes-lettered b after t = record {
  lexeme = Character b;
  lexes = ap (λ k. if nat_lt 1 k then name_lexed (take k (b ∷ after)) else Taken 3 (Character b)) (token_run-all (b ∷ []) after t.all t.ends);
  spells = refl;
  no_gap = sharp-no_gap 92 (b ∷ after) refl;
  some = omega arith;
}

-- the letters of a name are as many as those of its folded form
folded_long : (w v : List ℕ) → map folded w ≡ v → 1 < length v → 1 < length w
folded_long w v e n = omega (arith, n, ap length e, length-map w folded)

-- each spelling is one lexeme
pub lexes-spells : (b after : List ℕ) (a : Atom) → Spells b after a → LexesAs b after a
unfolding sharp_lexed
lexes-spells _ _ _ (decimal w after t i n) = lexes-decimal w after t i n
lexes-spells _ _ _ (token w after t i f d n) = lexes-token w after t i f d n
lexes-spells _ _ _ (barred bs after name s n) = lexes-barred bs after name s n
lexes-spells _ _ _ (quoted bs after content s) = lexes-quoted bs after content s
lexes-spells _ _ _ (based _ _ w after binary t i n) = lexes-based 98 2 w after refl refl t i n
lexes-spells _ _ _ (based _ _ w after octal t i n) = lexes-based 111 8 w after refl refl t i n
lexes-spells _ _ _ (based _ _ w after hexadecimal t i n) = lexes-based 120 16 w after refl refl t i n
lexes-spells _ _ _ (marked b after e) = lexes-marked b after e
lexes-spells _ _ _ (lettered b after t) = lexes-lettered b after t
lexes-spells _ _ _ (space w after t e) = lexes-named w after 32 t (folded_long w (codes "space") e (omega arith)) (rw e refl)
lexes-spells _ _ _ (newline w after t e) = lexes-named w after 10 t (folded_long w (codes "newline") e (omega arith)) (rw e refl)

-- `)`, a dot and the openings
pub lexes-close : (bs : List ℕ) → (lex (41 ∷ bs) ≡ Taken 1 Close) × (skip Between 0 0 (41 ∷ bs) ≡ Ends 0)
unfolding lex skip is_token is_blank mark_lexed
lexes-close bs = (refl, refl)

dot-token : (bs : List ℕ) → begins is_token bs ≡ false → IsToken (46 ∷ []) bs
unfolding is_token
dot-token bs h = record { some = refl; all = refl; ends = h }

pub lexes-dot : (bs : List ℕ) → begins is_token bs ≡ false
    → (lex (46 ∷ bs) ≡ Taken 1 Dot) × (skip Between 0 0 (46 ∷ bs) ≡ Ends 0)
unfolding token_lexed is_float digit_value
lexes-dot bs h =
    let t = dot-token bs h in
    (lex-token (46 ∷ []) bs t, token-no_gap (46 ∷ []) bs t)

pub lexes-opening : (o : Opening) (bs : List ℕ) → OpeningEnds o bs
    → (lex (opening_bytes o ++ bs) ≡ Taken (length (opening_bytes o)) (Open o))
    × (skip Between 0 0 (opening_bytes o ++ bs) ≡ Ends 0)
unfolding lex skip is_token is_blank mark_lexed sharp_lexed
lexes-opening ListOpening bs h = (refl, refl)
lexes-opening VectorOpening bs h = (refl, refl)
lexes-opening (Before Quote) bs h = (refl, refl)
lexes-opening (Before Quasiquote) bs h = (refl, refl)
lexes-opening (Before Unquote) bs h = (rw h refl, refl)
lexes-opening (Before UnquoteSplicing) bs h = (refl, refl)
lexes-opening (Before Function) bs h = (refl, refl)

-- ---- from the bridge to the grammar

-- what is taken for a lexeme that spells a is spelled so
pub spells-lexes : (text : List ℕ) (n : ℕ) (x : Lexeme) (a : Atom) → lex text ≡ Taken n x
    → atom_of x (take n text) ≡ Some a → Spells (take n text) (drop n text) a
spells-lexes text n x a h k = spells-taken text n x a (takes text n x h) k

within : (text : List ℕ) (n : ℕ) (x : Lexeme) → Takes text n x → (0 < n) × (n ≤ length text)
within text n x (takes_atom b after a f m s p q) = (omega (arith, m, s), omega (arith, m, ap length f, length-append b after))
within text n x (takes_close bs f m y) = (omega (arith, m), omega (arith, m, ap length f))
within text n x (takes_dot bs f m y s) = (omega (arith, m), omega (arith, m, ap length f))
within text n x (takes_open o bs f m y s) = (omega (arith, m, opening_some o), omega (arith, m, ap length f, length-append (opening_bytes o) bs))

pub lexes-within : (text : List ℕ) (n : ℕ) (x : Lexeme) → 0 < length text → lex text ≡ Taken n x
    → (0 < n) × (n ≤ length text)
lexes-within text n x some h = within text n x (takes text n x h)

closes : (text : List ℕ) (n : ℕ) → Takes text n Close → (bs : List ℕ) × ((text ≡ 41 ∷ bs) × (n ≡ 1))
closes text n (takes_atom b after a f m s p q) = absurd (cc)
closes text n (takes_close bs f m y) = (bs, (f, m))
closes text n (takes_dot bs f m y s) = absurd (cc)
closes text n (takes_open o bs f m y s) = absurd (cc)

pub close-lexes : (text : List ℕ) (n : ℕ) → lex text ≡ Taken n Close → (bs : List ℕ) × ((text ≡ 41 ∷ bs) × (n ≡ 1))
close-lexes text n h = closes text n (takes text n Close h)

dots : (text : List ℕ) (n : ℕ) → Takes text n Dot → (bs : List ℕ) × ((text ≡ 46 ∷ bs) × (n ≡ 1) × (begins is_token bs ≡ false))
dots text n (takes_atom b after a f m s p q) = absurd (cc)
dots text n (takes_close bs f m y) = absurd (cc)
dots text n (takes_dot bs f m y s) = (bs, (f, m, s))
dots text n (takes_open o bs f m y s) = absurd (cc)

pub dot-lexes : (text : List ℕ) (n : ℕ) → lex text ≡ Taken n Dot
    → (bs : List ℕ) × ((text ≡ 46 ∷ bs) × (n ≡ 1) × (begins is_token bs ≡ false))
dot-lexes text n h = dots text n (takes text n Dot h)

opens : (text : List ℕ) (n : ℕ) (o : Opening) → Takes text n (Open o)
    → (bs : List ℕ) × ((text ≡ opening_bytes o ++ bs) × (n ≡ length (opening_bytes o)) × OpeningEnds o bs)
opens text n o (takes_atom b after a f m s p q) = absurd (cc)
opens text n o (takes_close bs f m y) = absurd (cc)
opens text n o (takes_dot bs f m y s) = absurd (cc)
opens text n o (takes_open p bs f m y s) =
    let same : p ≡ o = cc in
    (bs, (f ∙ ap (λ x. opening_bytes x ++ bs) same, m ∙ ap (λ x. length (opening_bytes x)) same, subst (λ x. OpeningEnds x bs) same s))

pub open-lexes : (text : List ℕ) (n : ℕ) (o : Opening) → lex text ≡ Taken n (Open o)
    → (bs : List ℕ) × ((text ≡ opening_bytes o ++ bs) × (n ≡ length (opening_bytes o)) × OpeningEnds o bs)
open-lexes text n o h = opens text n o (takes text n (Open o) h)
