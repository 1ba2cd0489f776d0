-- The turns of the loops that go over bytes, and the first byte of a text.
use Rattle.std.proofs.Common.{◌≡◌, ◌≢◌, ℕ, zero, suc, ◌+◌, ◌-◌, ◌<◌, ◌≤◌, Bool, true, false, ◌==◌, List, [], ◌∷◌, ◌++◌, append_assoc, append-nil, length, get_or, take, drop, refl, ap, arith, add-one, drop-cons, if◌then◌else◌}
use Rattle.std.proofs.lemmas.List.{drop_all}
use Rattle.front_reader.specs.declared.quoted.Quoted.TheVariants.{Closed, Unclosed, Bad}
use Rattle.front_reader.specs.declared.gap.Mode.TheVariants.{InBlock}
use Rattle.front_reader.specs.Characters.{is_token}
use Rattle.front_reader.specs.Atoms.{may_stand}
use Rattle.front_reader.specs.bridge.Lexemes.{mode_after_close, token_run, token_lexed, mark_lexed, lex, quoted_from, unescaped}

-- behind a comment inside others
pub after_close : (n : ℕ) → n ≢ 0 → mode_after_close n ≡ InBlock (n - 1)
after_close zero h = absurd (h refl)
after_close (suc n) h = ap InBlock (omega arith)

-- token characters
pub run_at : (bs : List ℕ) (i : ℕ) → i < length bs → token_run (drop i bs) ≡ (if is_token (get_or bs i 0) then token_run (drop (i + 1) bs) + 1 else 0)
unfolding token_run
run_at bs i h = rw (drop-cons bs i 0, add-one i) refl

pub run_end : (bs : List ℕ) (i : ℕ) → length bs ≤ i → token_run (drop i bs) ≡ 0
unfolding token_run
run_end bs i h = rw (drop_all i bs h) refl

pub ruleset runs = (run_at, run_end)

-- bytes between quotes, behind a backslash and not
pub quoted_at : (quote : ℕ) (bs : List ℕ) (i : ℕ) → i < length bs → quoted_from quote false i (drop i bs) ≡ (if get_or bs i 0 == quote then Closed i else if get_or bs i 0 == 92 then quoted_from quote true (i + 1) (drop (i + 1) bs) else if may_stand quote (get_or bs i 0) then quoted_from quote false (i + 1) (drop (i + 1) bs) else Bad i)
unfolding quoted_from
quoted_at quote bs i h = rw (drop-cons bs i 0, add-one i) refl

pub escaped_at : (quote : ℕ) (bs : List ℕ) (i : ℕ) → i < length bs → quoted_from quote true i (drop i bs) ≡ (if may_stand quote (get_or bs i 0) then quoted_from quote false (i + 1) (drop (i + 1) bs) else Bad i)
unfolding quoted_from
escaped_at quote bs i h = rw (drop-cons bs i 0, add-one i) refl

pub quoted_end : (quote : ℕ) (e : Bool) (bs : List ℕ) (i : ℕ) → length bs ≤ i → quoted_from quote e i (drop i bs) ≡ Unclosed
unfolding quoted_from
quoted_end quote e bs i h = rw (drop_all i bs h) refl

pub ruleset quotes = (quoted_at, escaped_at, quoted_end)

-- their content
pub content_at : (bs : List ℕ) (i : ℕ) → i < length bs → unescaped false (drop i bs) ≡ (if get_or bs i 0 == 92 then unescaped true (drop (i + 1) bs) else get_or bs i 0 ∷ unescaped false (drop (i + 1) bs))
unfolding unescaped
content_at bs i h = rw (drop-cons bs i 0, add-one i) refl

pub escaped_content_at : (bs : List ℕ) (i : ℕ) → i < length bs → unescaped true (drop i bs) ≡ get_or bs i 0 ∷ unescaped false (drop (i + 1) bs)
unfolding unescaped
escaped_content_at bs i h = rw (drop-cons bs i 0, add-one i) refl

pub content_end : (e : Bool) (bs : List ℕ) (i : ℕ) → length bs ≤ i → unescaped e (drop i bs) ≡ []
unfolding unescaped
content_end e bs i h = rw (drop_all i bs h) refl

pub ruleset contents = (content_at, escaped_content_at, content_end)

-- a byte more behind those so far
pub pushed : (xs : List ℕ) (b : ℕ) (ys : List ℕ) → (xs ++ b ∷ []) ++ ys ≡ xs ++ b ∷ ys
pushed xs b ys = append_assoc xs (b ∷ []) ys

pub none_left : (xs : List ℕ) → xs ++ [] ≡ xs
none_left xs = append-nil xs

pub ruleset copies = (content_at, escaped_content_at, content_end, pushed, none_left)

-- a text by its first byte
pub lex_first : (text : List ℕ) → 0 < length text → lex text ≡ (if is_token (get_or text 0 0) then token_lexed (take (token_run text) text) else mark_lexed (get_or text 0 0) (drop 1 text))
unfolding lex
lex_first [] h = absurd (omega (arith, h))
lex_first (b ∷ bs) h = refl

pub ruleset lexes = (lex_first)
