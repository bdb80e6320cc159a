-- Writing an image: how long it is, and the bytes of one more item.
use Rattle.std.proofs.Common.{◌≡◌, ℕ, ◌+◌, ◌*◌, ◌<◌, List, [], ◌∷◌, ◌++◌, length, take, get_or, refl, sym, ◌∙◌, ap, arith, length-append}
use Rattle.std.specs.List.{flat_map, sum_by}
use Rattle.std.specs.Int.{w32, to_be_bytes}
use Rattle.std.proofs.lemmas.List.{take_more, flat_map_more}
use Rattle.std.proofs.lemmas.List.Sums.{sum_by-cons}
use Rattle.machine.specs.Programs.{Instr, ProgramValue}
use Rattle.machine.specs.Images.{length_image, code_image, image_of}
use Rattle.machine.proofs.ImageInstrs.{length-code_image}
use Rattle.machine.proofs.ImageLaws.{length-lengths_image, length-words_image}

length-all_codes : (codes : List (List Instr)) → length (flat_map code_image codes) ≡ 8 * sum_by length codes
length-all_codes [] = refl
length-all_codes (code ∷ codes) =
    omega (arith, length-append (code_image code) (flat_map code_image codes), length-code_image code, length-all_codes codes, sum_by-cons (length {A = Instr}) code codes)

-- the length of an image
pub length-image_of : (p : ProgramValue) → length (image_of p) ≡ 7 + 2 * length p.threads + 4 * length p.words + 8 * sum_by length p.threads
length-image_of p =
    let lengths = flat_map length_image p.threads in
    let words = flat_map (to_be_bytes w32) p.words in
    let codes = flat_map code_image p.threads in
    omega (
      arith,
      length-append lengths (words ++ codes),
      length-append words codes,
      length-lengths_image p.threads,
      length-words_image p.words,
      length-all_codes p.threads,
    )

-- after the bytes of one more item
pub one_more : {X : Type 0} (f : X → List ℕ) (front out new : List ℕ) (xs : List X) (i : ℕ) (d : X) → i < length xs → out ≡ front ++ flat_map f (take i xs) → new ≡ out ++ f (get_or xs i d) → new ≡ front ++ flat_map f (take (i + 1) xs)
one_more f front out new xs i d within so_far e =
    e ∙ ap (λ (bytes : List ℕ). bytes ++ f (get_or xs i d)) so_far ∙ flat_map_more f front (take i xs) (get_or xs i d) ∙ ap (λ ys. front ++ flat_map f ys) (sym (take_more xs i d within))
