-- Two lists of words with the same bytes have the same words.
use Rattle.std.proofs.Common.{◌≡◌, ◌<◌, ℕ, ◌*◌, ◌/◌, ◌^◌, List, length, get_or, sym, ap, ◌∙◌, arith, Some}
use Rattle.std.proofs.lemmas.Option.{slice_get-get_or}
use Rattle.rv_machine.specs.Memory.{bytes_of, number_at}
use Rattle.rv_machine.specs.Words.{length-bytes_of, word_read}
use Rattle.back_emission.proofs.Addresses.{word_there}
use Rattle.back_build.specs.WordsLeft.{LawOfWordsLeft}

same_length : (xs ys : List ℕ) → bytes_of xs ≡ bytes_of ys → length xs ≡ length ys
same_length xs ys same = let e = ap length same in omega (arith, e, length-bytes_of xs, length-bytes_of ys)

same_word :
    (xs ys : List ℕ) → bytes_of xs ≡ bytes_of ys → (i : ℕ) → i < length xs → i < length ys
    → get_or xs i 0 < 2 ^ 32 → get_or ys i 0 < 2 ^ 32
    → Some (get_or xs i 0) ≡ Some (get_or ys i 0)
same_word xs ys same i low_x low_y small_x small_y =
    sym (word_read xs i low_x small_x) ∙ ap (λ bytes. number_at 4 (4 * i) bytes) same ∙ word_read ys i low_y small_y

pub law_of_words_left : LawOfWordsLeft
law_of_words_left z m leaves words are address stored h =
    let there = word_there z.arena leaves.words address stored leaves.arena h in
    let same : bytes_of words ≡ bytes_of leaves.words = are.memory ∙ leaves.memory in
    let long : length words ≡ length leaves.words = same_length words leaves.words same in
    let within : address / 4 < length words = omega (arith, long, there.within) in
    slice_get-get_or words (address / 4) 0 within
    ∙ same_word words leaves.words same (address / 4) within there.within
    (are.small (address / 4)) (leaves.arena.words_small (address / 4))
    ∙ ap (λ w. Some w) there.is_word
