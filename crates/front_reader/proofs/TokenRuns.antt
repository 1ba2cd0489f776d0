-- Runs of token characters, and bytes that are told apart by what they are.
use Rattle.std.proofs.Common.{◌≡◌, ℕ, ◌+◌, Bool, true, false, ◌==◌, List, [], ◌∷◌, ◌++◌, length, take, refl, sym, ap, ◌∙◌, arith}
use Rattle.std.specs.List.{list_all}
use Rattle.std.proofs.Math.Seq.{take-append_seam}
use Rattle.std.proofs.lemmas.Bool.{eqb-true, and_parts}
use Rattle.front_reader.specs.declared.gap.Mode.TheVariants.{Between}
use Rattle.front_reader.specs.declared.gap.Skipped.TheVariants.{Ends}
use Rattle.front_reader.specs.Characters.{is_blank, is_token, begins}
use Rattle.front_reader.specs.Tokens.{IsToken}
use Rattle.front_reader.specs.bridge.Lexemes.{skip, token_run}

-- a byte of one kind is none that is not of it
apart_by : (p : ℕ → Bool) (b c : ℕ) (x : Bool) → (b == c) ≡ x → p b ≡ true → p c ≡ false → x ≡ false
apart_by p b c false e y n = refl
apart_by p b c true e y n =
    let same : p b ≡ p c = ap p (eqb-true b c e) in
    let no : true ≡ false = sym y ∙ same ∙ n in
    absurd (cc)

pub apart : (p : ℕ → Bool) (b c : ℕ) → p b ≡ true → p c ≡ false → (b == c) ≡ false
apart p b c y n = apart_by p b c (b == c) refl y n

-- a token begins no gap
pub token_no_blank : (b : ℕ) → is_token b ≡ true → is_blank b ≡ false
unfolding is_blank is_token
token_no_blank b y =
    rw (apart is_token b 9 y refl, apart is_token b 10 y refl, apart is_token b 12 y refl, apart is_token b 13 y refl, apart is_token b 32 y refl) refl

pub token_no_gap : (b : ℕ) (bs : List ℕ) → is_token b ≡ true → skip Between 0 0 (b ∷ bs) ≡ Ends 0
unfolding skip is_token
token_no_gap b bs y =
    rw (token_no_blank b y, apart is_token b 59 y refl, apart is_token b 35 y refl) refl

-- how long a run is
pub token_run-all : (w after : List ℕ) → list_all is_token w ≡ true → begins is_token after ≡ false → token_run (w ++ after) ≡ length w
unfolding token_run
token_run-all [] [] a e = refl
token_run-all [] (b ∷ bs) a e = rw e refl
token_run-all (b ∷ bs) after a e =
    let h = and_parts (is_token b) (list_all is_token bs) a in
    rw h.0 (ap (λ n. n + 1) (token_run-all bs after h.1 e) ∙ omega arith)

-- and what it is made of
pub record Run (text : List ℕ) : Type 0 where
  pub word : List ℕ
  pub after : List ℕ
  pub front : text ≡ word ++ after
  pub count : token_run text ≡ length word
  pub all : list_all is_token word ≡ true
  pub ends : begins is_token after ≡ false

run_by : (b : ℕ) (bs : List ℕ) (x : Bool) → is_token b ≡ x → Run bs → Run (b ∷ bs)
unfolding token_run
run_by b bs true e r = record {
  word = b ∷ r.word;
  after = r.after;
  front = ap (λ x. b ∷ x) r.front;
  count = rw e (omega (arith, r.count));
  all = rw e r.all;
  ends = r.ends;
}
run_by b bs false e r = record { word = []; after = b ∷ bs; front = refl; count = rw e refl; all = refl; ends = e }

pub run_of : (text : List ℕ) → Run text
unfolding token_run
run_of [] = record { word = []; after = []; front = refl; count = refl; all = refl; ends = refl }
run_of (b ∷ bs) = run_by b bs (is_token b) refl (run_of bs)

-- the bytes of the run
pub run_taken : (text : List ℕ) (r : Run text) → take (token_run text) text ≡ r.word
run_taken text r = ap (λ n. take n text) r.count ∙ ap (take (length r.word)) r.front ∙ take-append_seam r.word r.after

-- a run that begins is a token
pub run_is_token : (b : ℕ) (bs : List ℕ) (r : Run (b ∷ bs)) → is_token b ≡ true → IsToken r.word r.after
unfolding token_run
run_is_token b bs r e = record { some = first r.word r.front r.count; all = r.all; ends = r.ends }
  where
    first : (w : List ℕ) → b ∷ bs ≡ w ++ r.after → token_run (b ∷ bs) ≡ length w → begins is_token w ≡ true
    first [] f c = absurd (omega (arith, rw e at c))
    first (x ∷ xs) f c = let same : b ≡ x = cc in rw (← same) e

-- a token's run is the token
pub token_taken : (w after : List ℕ) → IsToken w after → take (token_run (w ++ after)) (w ++ after) ≡ w
token_taken w after t =
    ap (λ n. take n (w ++ after)) (token_run-all w after t.all t.ends) ∙ take-append_seam w after
