-- What a loop over the pieces of a file keeps.
use Rattle.std.proofs.Common.{◌≡◌, ◌≢◌, ℕ, ◌+◌, ◌<◌, ◌≤◌, List, [], ◌∷◌, ◌++◌, length, take, drop, refl, sym, ap, subst, ◌∙◌, arith, Some, None, append_assoc, append-nil, length-append, length-take}
use Rattle.std.specs.Prelude.{Option, IfSome}
use Rattle.std.proofs.lemmas.List.{take-append-drop, take-append-le, take_all}
use Rattle.std.proofs.Math.Seq.{drop-append_seam}
use Rattle.base.specs.Outside.{TakesFront}
use Rattle.top_exec.specs.Loads.{IsTaken}

-- the text so far is a front of the file
pub record IsFront (file text : List ℕ) : Type 0 where
  pub rest : List ℕ
  pub is : file ≡ text ++ rest

pub record Loading (limit : ℕ) (held : Option (List ℕ)) (text : List ℕ) : Type 0 where
  pub front : IfSome held (λ file. IsFront file text)
  pub within : length text ≤ limit

pub loading_none : (limit : ℕ) (held : Option (List ℕ)) → Loading limit held []
loading_none limit None = record { front = tt; within = omega arith }
loading_none limit (Some file) = record { front = record { rest = file; is = refl }; within = omega arith }

-- a piece more
front_more : (file text : List ℕ) (n : ℕ) (buffer piece : List ℕ) → IsFront file text → TakesFront (drop (length text) file) n buffer piece → IsFront file (text ++ take n piece)
front_more file text n buffer piece f t =
    let behind : drop (length text) file ≡ f.rest = ap (drop (length text)) f.is ∙ drop-append_seam text f.rest in
    let same : take n piece ≡ take n f.rest = t.bytes ∙ ap (take n) behind in
    record {
      rest = drop n f.rest;
      is = f.is ∙ ap (λ x. text ++ x) (sym (take-append-drop n f.rest)) ∙ sym (append_assoc text (take n f.rest) (drop n f.rest)) ∙ ap (λ x. text ++ x ++ drop n f.rest) (sym same);
    }

pub loading_more : (limit : ℕ) (held : Option (List ℕ)) (text : List ℕ) (n : ℕ) (buffer piece : List ℕ) → Loading limit held text → IfSome held (λ file. TakesFront (drop (length text) file) n buffer piece) → length text + n ≤ limit → Loading limit held (text ++ take n piece)
loading_more limit None text n buffer piece l t b = record { front = tt; within = omega (arith, length-append text (take n piece), length-take n piece) }
loading_more limit (Some file) text n buffer piece l t b = record { front = front_more file text n buffer piece l.front t; within = omega (arith, length-append text (take n piece), length-take n piece) }

-- the end of the file, or as many bytes as are taken
pub loaded_end : (limit : ℕ) (held : Option (List ℕ)) (text buffer piece : List ℕ) → Loading limit held text → IfSome held (λ file. TakesFront (drop (length text) file) 0 buffer piece) → 0 < length buffer → IsTaken limit held text
loaded_end limit None text buffer piece l t b = tt
loaded_end limit (Some file) text buffer piece l t b =
    let f = l.front in
    let behind : drop (length text) file ≡ f.rest = ap (drop (length text)) f.is ∙ drop-append_seam text f.rest in
    at_end f.rest (λ ne. t.ends b (λ e. ne (sym behind ∙ e))) f.is
  where
    at_end : (rest : List ℕ) → (rest ≢ [] → 0 < 0) → file ≡ text ++ rest → text ≡ take limit file
    at_end [] h e =
        let whole : file ≡ text = e ∙ append-nil text in
        sym (take_all limit file (omega (arith, l.within, ap length whole)) ∙ whole)
    at_end (x ∷ xs) h e = absurd (omega (arith, h (λ c. cc)))

-- the front of two lists joined
front_of : (xs ys : List ℕ) → take (length xs) (xs ++ ys) ≡ xs
front_of xs ys = take-append-le (length xs) xs ys (omega arith) ∙ take_all (length xs) xs (omega arith)

pub loaded_full : (limit : ℕ) (held : Option (List ℕ)) (text : List ℕ) → Loading limit held text → limit ≤ length text → IsTaken limit held text
loaded_full limit None text l b = tt
loaded_full limit (Some file) text l b =
    let f = l.front in
    let n : limit ≡ length text = omega (arith, l.within) in
    sym (ap (take limit) f.is ∙ ap (λ k. take k (text ++ f.rest)) n ∙ front_of text f.rest)

-- the same as the code has them: what is held before the read, where it reads, and a buffer whose front
-- was written
pub ended_here : (limit : ℕ) (held held' : Option (List ℕ)) (text buffer piece : List ℕ) (at n : ℕ) → held' ≡ held → at ≡ length text → n ≡ 0 → Loading limit held text → IfSome held' (λ file. TakesFront (drop at file) n buffer piece) → 0 < length buffer → IsTaken limit held text
ended_here limit held held' text buffer piece at n same here none l t b =
    let Q : Option (List ℕ) → Type 0 = λ h. IfSome h (λ file. TakesFront (drop (length text) file) 0 buffer piece) in
    let P : ℕ → ℕ → Type 0 = λ a m. IfSome held' (λ file. TakesFront (drop a file) m buffer piece) in
    let t' : P (length text) 0 = subst (λ a. P a 0) here (subst (λ m. P at m) none t) in
    loaded_end limit held text buffer piece l (subst Q same t') b

pub went_on : (limit : ℕ) (held held' : Option (List ℕ)) (text text' buffer piece tail : List ℕ) (at n : ℕ) → held' ≡ held → at ≡ length text → text' ≡ text ++ take n (piece ++ tail) → n ≤ length piece → length text + n ≤ limit → Loading limit held text → IfSome held' (λ file. TakesFront (drop at file) n buffer piece) → Loading limit held text'
went_on limit held held' text text' buffer piece tail at n same here is fits within l t =
    let Q : Option (List ℕ) → Type 0 = λ h. IfSome h (λ file. TakesFront (drop (length text) file) n buffer piece) in
    let P : ℕ → Type 0 = λ a. IfSome held' (λ file. TakesFront (drop a file) n buffer piece) in
    let e : text' ≡ text ++ take n piece = is ∙ ap (λ x. text ++ x) (take-append-le n piece tail fits) in
    subst (Loading limit held) (sym e) (loading_more limit held text n buffer piece l (subst Q same (subst P here t)) within)
