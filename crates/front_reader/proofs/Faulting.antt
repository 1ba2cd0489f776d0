-- What a row of a fault describes is a fault of the bridge.
use Rattle.std.proofs.Common.{◌≡◌, ℕ, ◌+◌, ◌<◌, Bool, true, false, ◌==◌, ◌||◌, nat_lt, not, List, [], ◌∷◌, ◌++◌, length, take, refl, sym, ap, ◌∙◌, append-nil, arith, if◌then◌else◌, length-append}
use Rattle.std.specs.Prelude.{map, codes}
use Rattle.std.specs.List.{list_all, list_any}
use Rattle.std.specs.Str.{bytes_eq}
use Rattle.std.proofs.Math.Seq.{take-append_seam}
use Rattle.std.proofs.lemmas.Bool.{lt-ltb}
use Rattle.base.specs.declared.reason.Reason.{Reason}
use Rattle.base.specs.declared.reason.Reason.TheVariants.{BadByte, UnclosedString, BadSharp, FloatLiteral, IntegerTooWide, NameTooLong}
use Rattle.front_reader.specs.declared.gap.Mode.TheVariants.{Between}
use Rattle.front_reader.specs.declared.gap.Skipped.TheVariants.{Ends}
use Rattle.front_reader.specs.declared.lexeme.Lexeme.TheVariants.{Character}
use Rattle.front_reader.specs.declared.lexeme.Lexed.TheVariants.{Taken, Fault}
use Rattle.front_reader.specs.declared.quoted.Quoted.TheVariants.{Closed, Unclosed, Bad}
use Rattle.front_reader.specs.Characters.{is_blank, is_token, is_printed, folded, begins}
use Rattle.front_reader.specs.Tokens.{IsToken, is_integer, is_wide, is_float, is_dot}
use Rattle.front_reader.specs.Atoms.{Inside, nothing, plain, escaped, Base, binary, octal, hexadecimal}
use Rattle.front_reader.specs.Stops.{begins_nothing, IsBadSharp, sharp_ends, no_row, no_digits, no_character, no_name}
use Rattle.front_reader.specs.bridge.Lexemes.{skip, lex, token_run, token_lexed, mark_lexed, sharp_lexed, name_lexed, quoted_from}
use Rattle.front_reader.proofs.TokenRuns.{apart, token_run-all}
use Rattle.front_reader.proofs.Quotes.{inside-closed, inside-unescaped}
use Rattle.front_reader.proofs.Taking.{no_base}
use Rattle.front_reader.proofs.Lexing.{lex-token, token-no_gap, token-some, sharp-no_gap}

-- the text begins with a fault so many bytes on, and with no gap
pub record Faults (text : List ℕ) (k : ℕ) (r : Reason) : Type 0 where
  pub lexes : lex text ≡ Fault k r
  pub no_gap : skip Between 0 0 text ≡ Ends 0
  pub some : 0 < length text

nothing-token : (b : ℕ) (x : Bool) → is_token b ≡ x → begins_nothing b ≡ true → x ≡ false
unfolding begins_nothing
nothing-token b false e h = refl
nothing-token b true e h =
    let no : false ≡ true =
    (ap (λ x. not (x || is_blank b || list_any (λ c. b == c) (40 ∷ 41 ∷ 34 ∷ 39 ∷ 44 ∷ 59 ∷ 35 ∷ 124 ∷ 96 ∷ []))) (sym e)) ∙ h in
    absurd (cc)

nothing-blank : (b : ℕ) → begins_nothing b ≡ true → is_blank b ≡ false
unfolding is_blank begins_nothing is_token
nothing-blank b h =
    rw (apart begins_nothing b 9 h refl, apart begins_nothing b 10 h refl, apart begins_nothing b 12 h refl, apart begins_nothing b 13 h refl, apart begins_nothing b 32 h refl) refl

pub faults-byte : (b : ℕ) (bs : List ℕ) → begins_nothing b ≡ true → Faults (b ∷ bs) 0 BadByte
unfolding lex mark_lexed skip begins_nothing is_token is_blank
faults-byte b bs h = record {
  lexes = rw (nothing-token b (is_token b) refl h, apart begins_nothing b 40 h refl, apart begins_nothing b 41 h refl, apart begins_nothing b 39 h refl, apart begins_nothing b 96 h refl, apart begins_nothing b 44 h refl, apart begins_nothing b 34 h refl, apart begins_nothing b 124 h refl, apart begins_nothing b 35 h refl) refl;
  no_gap = rw (nothing-blank b h, apart begins_nothing b 59 h refl, apart begins_nothing b 35 h refl) refl;
  some = omega arith;
}

-- what is inside is passed
inside-passed : (quote : ℕ) (bs content rest : List ℕ) (i : ℕ) → (92 == quote) ≡ false → Inside quote bs content
    → quoted_from quote false i (bs ++ rest) ≡ quoted_from quote false (i + length bs) rest
unfolding quoted_from
inside-passed quote _ _ rest i n nothing = ap (λ j. quoted_from quote false j rest) (omega arith)
inside-passed quote _ _ rest i n (plain b bs content q e m s) =
    rw (q, e, m) (inside-passed quote bs content rest (i + 1) n s ∙ ap (λ j. quoted_from quote false j rest) (omega arith))
inside-passed quote _ _ rest i n (escaped b bs content m s) =
    rw (n, m) (inside-passed quote bs content rest (i + 1 + 1) n s ∙ ap (λ j. quoted_from quote false j rest) (omega arith))

inside-unclosed : (quote : ℕ) (bs content : List ℕ) → (92 == quote) ≡ false → Inside quote bs content
    → quoted_from quote false 0 bs ≡ Unclosed
unfolding quoted_from
inside-unclosed quote bs content n s =
    ap (quoted_from quote false 0) (sym (append-nil bs)) ∙ inside-passed quote bs content [] 0 n s

inside-unclosed-escaped : (quote : ℕ) (bs content : List ℕ) → (92 == quote) ≡ false → Inside quote bs content
    → quoted_from quote false 0 (bs ++ 92 ∷ []) ≡ Unclosed
unfolding quoted_from
inside-unclosed-escaped quote bs content n s =
    inside-passed quote bs content (92 ∷ []) 0 n s ∙ rw n refl

unclosed-string : (bs : List ℕ) → quoted_from 34 false 0 bs ≡ Unclosed → Faults (34 ∷ bs) 0 UnclosedString
unfolding lex mark_lexed is_token skip is_blank
unclosed-string bs h = record { lexes = rw h refl; no_gap = refl; some = omega arith }

unclosed-bar : (bs : List ℕ) → quoted_from 124 false 0 bs ≡ Unclosed → Faults (124 ∷ bs) 0 UnclosedString
unfolding lex mark_lexed is_token skip is_blank
unclosed-bar bs h = record { lexes = rw h refl; no_gap = refl; some = omega arith }

pub faults-string : (bs content : List ℕ) → Inside 34 bs content → Faults (34 ∷ bs) 0 UnclosedString
faults-string bs content s = unclosed-string bs (inside-unclosed 34 bs content refl s)

pub faults-string-escaped : (bs content : List ℕ) → Inside 34 bs content → Faults (34 ∷ (bs ++ 92 ∷ [])) 0 UnclosedString
faults-string-escaped bs content s = unclosed-string (bs ++ 92 ∷ []) (inside-unclosed-escaped 34 bs content refl s)

pub faults-bar : (bs content : List ℕ) → Inside 124 bs content → Faults (124 ∷ bs) 0 UnclosedString
faults-bar bs content s = unclosed-bar bs (inside-unclosed 124 bs content refl s)

pub faults-bar-escaped : (bs content : List ℕ) → Inside 124 bs content → Faults (124 ∷ (bs ++ 92 ∷ [])) 0 UnclosedString
faults-bar-escaped bs content s = unclosed-bar (bs ++ 92 ∷ []) (inside-unclosed-escaped 124 bs content refl s)

not-printed : (b : ℕ) → is_printed b ≡ false → not (is_printed b) ≡ true
not-printed b h = ap not h

pub faults-bar-byte : (bs content : List ℕ) (b : ℕ) (more : List ℕ) → Inside 124 bs content → is_printed b ≡ false
    → Faults (124 ∷ (bs ++ b ∷ more)) (length bs + 1) BadByte
unfolding lex mark_lexed is_token skip is_blank quoted_from
faults-bar-byte bs content b more s h =
    let bar : (b == 124) ≡ false = apart (λ c. not (is_printed c)) b 124 (not-printed b h) refl in
    let slash : (b == 92) ≡ false = apart (λ c. not (is_printed c)) b 92 (not-printed b h) refl in
    let found : quoted_from 124 false 0 (bs ++ b ∷ more) ≡ Bad (length bs) =
    inside-passed 124 bs content (b ∷ more) 0 refl s ∙ rw (bar, slash, h) (ap Bad (omega arith)) in
    record { lexes = rw found refl; no_gap = refl; some = omega arith }

pub faults-bar-byte-escaped : (bs content : List ℕ) (b : ℕ) (more : List ℕ) → Inside 124 bs content → is_printed b ≡ false
    → Faults (124 ∷ (bs ++ 92 ∷ b ∷ more)) (length bs + 2) BadByte
unfolding lex mark_lexed is_token skip is_blank quoted_from
faults-bar-byte-escaped bs content b more s h =
    let found : quoted_from 124 false 0 (bs ++ 92 ∷ b ∷ more) ≡ Bad (length bs + 1) =
    inside-passed 124 bs content (92 ∷ b ∷ more) 0 refl s ∙ rw h (ap Bad (omega arith)) in
    record { lexes = rw found (ap (λ k. Fault k BadByte) (omega arith)); no_gap = refl; some = omega arith }

pub faults-bar-long : (bs name after : List ℕ) → Inside 124 bs name → 256 < length name
    → Faults (124 ∷ (bs ++ 124 ∷ after)) 0 NameTooLong
unfolding lex mark_lexed is_token skip is_blank
faults-bar-long bs name after s n =
    let closed : quoted_from 124 false 0 (bs ++ 124 ∷ after) ≡ Closed (length bs) = inside-closed 124 bs name after 0 refl s ∙ ap Closed (omega arith) in
    record {
      lexes = rw (closed, take-append_seam bs (124 ∷ after), inside-unescaped 124 bs name s, lt-ltb 256 (length name) n) refl;
      no_gap = refl;
      some = omega arith;
    }

front-some : (w after : List ℕ) → IsToken w after → 0 < length (w ++ after)
front-some w after t = omega (arith, token-some w after t, length-append w after)

pub faults-float : (w after : List ℕ) → IsToken w after → is_integer 10 w ≡ false → is_float w ≡ true
    → Faults (w ++ after) 0 FloatLiteral
unfolding token_lexed
faults-float w after t i f = record {
  lexes = lex-token w after t ∙ rw (i, f) refl;
  no_gap = token-no_gap w after t;
  some = front-some w after t;
}

pub faults-wide : (w after : List ℕ) → IsToken w after → is_integer 10 w ≡ true → is_wide 10 w ≡ true
    → Faults (w ++ after) 0 IntegerTooWide
unfolding token_lexed
faults-wide w after t i f = record {
  lexes = lex-token w after t ∙ rw (i, f) refl;
  no_gap = token-no_gap w after t;
  some = front-some w after t;
}

long-no_dot : (w : List ℕ) → 256 < length w → is_dot w ≡ false
long-no_dot [] n = absurd (omega arith)
long-no_dot (b ∷ []) n = absurd (omega arith)
long-no_dot (b ∷ c ∷ bs) n = refl

pub faults-long : (w after : List ℕ) → IsToken w after → is_integer 10 w ≡ false → is_float w ≡ false → 256 < length w
    → Faults (w ++ after) 0 NameTooLong
unfolding token_lexed
faults-long w after t i f n = record {
  lexes = lex-token w after t ∙ rw (i, f, long-no_dot w n, lt-ltb 256 (length w) n) refl;
  no_gap = token-no_gap w after t;
  some = front-some w after t;
}

run-taken : (w after : List ℕ) → list_all is_token w ≡ true → begins is_token after ≡ false → take (token_run (w ++ after)) (w ++ after) ≡ w
run-taken w after a e = ap (λ n. take n (w ++ after)) (token_run-all w after a e) ∙ take-append_seam w after

pub faults-based-wide : (letter base : ℕ) (w after : List ℕ) → Base letter base → IsToken w after → is_integer base w ≡ true
    → is_wide base w ≡ true → Faults (35 ∷ letter ∷ (w ++ after)) 0 IntegerTooWide
unfolding lex mark_lexed is_token sharp_lexed
faults-based-wide _ _ w after binary t i f = record {
  lexes = rw (run-taken w after t.all t.ends, i, f) refl;
  no_gap = sharp-no_gap 98 (w ++ after) refl;
  some = omega arith;
}
faults-based-wide _ _ w after octal t i f = record {
  lexes = rw (run-taken w after t.all t.ends, i, f) refl;
  no_gap = sharp-no_gap 111 (w ++ after) refl;
  some = omega arith;
}
faults-based-wide _ _ w after hexadecimal t i f = record {
  lexes = rw (run-taken w after t.all t.ends, i, f) refl;
  no_gap = sharp-no_gap 120 (w ++ after) refl;
  some = omega arith;
}

no-digits : (letter base : ℕ) (w after : List ℕ) → Base letter base → list_all is_token w ≡ true → begins is_token after ≡ false
    → is_integer base w ≡ false → Faults (35 ∷ letter ∷ (w ++ after)) 0 BadSharp
unfolding lex mark_lexed is_token sharp_lexed
no-digits _ _ w after binary a e i = record {
  lexes = rw (run-taken w after a e, i) refl;
  no_gap = sharp-no_gap 98 (w ++ after) refl;
  some = omega arith;
}
no-digits _ _ w after octal a e i = record {
  lexes = rw (run-taken w after a e, i) refl;
  no_gap = sharp-no_gap 111 (w ++ after) refl;
  some = omega arith;
}
no-digits _ _ w after hexadecimal a e i = record {
  lexes = rw (run-taken w after a e, i) refl;
  no_gap = sharp-no_gap 120 (w ++ after) refl;
  some = omega arith;
}

-- a byte that may stand behind no `#`
abbrev is_no_row : ℕ → Bool
is_no_row b = not (list_any (λ c. b == c) (codes "('|\\box"))

no-row : (b : ℕ) (bs : List ℕ) → is_no_row b ≡ true → Faults (35 ∷ b ∷ bs) 0 BadSharp
unfolding lex mark_lexed is_token sharp_lexed
no-row b bs h = record {
  lexes = rw (apart is_no_row b 40 h refl, apart is_no_row b 39 h refl, apart is_no_row b 92 h refl, apart is_no_row b 98 h refl, apart is_no_row b 111 h refl, apart is_no_row b 120 h refl, no_base (take (token_run bs) bs)) refl;
  no_gap = sharp-no_gap b bs (apart is_no_row b 124 h refl);
  some = omega arith;
}

no-name : (w after : List ℕ) → IsToken w after → 1 < length w → bytes_eq (map folded w) (codes "space") ≡ false
    → bytes_eq (map folded w) (codes "newline") ≡ false → Faults (35 ∷ 92 ∷ (w ++ after)) 0 BadSharp
unfolding lex mark_lexed is_token sharp_lexed
no-name [] after t n s l = absurd (omega arith)
no-name (c ∷ w) after t n s l =
    let run : token_run (c ∷ (w ++ after)) ≡ length (c ∷ w) = token_run-all (c ∷ w) after t.all t.ends in
    let taken : take (length (c ∷ w)) (c ∷ (w ++ after)) ≡ c ∷ w = take-append_seam (c ∷ w) after in
    record {
      lexes =
          ap (λ m. if nat_lt 1 m then name_lexed (take m (c ∷ (w ++ after))) else Taken 3 (Character c)) run
          ∙ ap (λ b. if b then name_lexed (take (length (c ∷ w)) (c ∷ (w ++ after))) else Taken 3 (Character c)) (lt-ltb 1 (length (c ∷ w)) n)
          ∙ ap name_lexed taken ∙ rw (s, l) refl;
      no_gap = sharp-no_gap 92 ((c ∷ w) ++ after) refl;
      some = omega arith;
    }

pub faults-sharp : (bs : List ℕ) → IsBadSharp bs → Faults (35 ∷ bs) 0 BadSharp
unfolding lex mark_lexed is_token sharp_lexed skip is_blank
faults-sharp _ sharp_ends = record { lexes = refl; no_gap = refl; some = omega arith }
faults-sharp _ (no_row b bs h) = no-row b bs (ap not h)
faults-sharp _ (no_digits letter base w after k a e i) = no-digits letter base w after k a e i
faults-sharp _ no_character = record { lexes = refl; no_gap = refl; some = omega arith }
faults-sharp _ (no_name w after t n s l) = no-name w after t n s l
