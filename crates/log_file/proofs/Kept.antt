-- What is known of the entries of a thread stays known when one more is added.
use Rattle.std.proofs.Common.{◌≡◌, ◌≢◌, ℕ, ◌<◌, Bool, true, false, eqb, leb, max, ◌&&◌, ◌||◌, List, [], ◌∷◌, ◌++◌, length, get_or, set, refl, sym, ◌∙◌, ap, subst, arith, inl, inr, ◌⊎◌}
use Rattle.std.specs.List.{list_any}
use Rattle.std.proofs.lemmas.Bool.{cases_eq, eq-eqb, eqb-true, ne_eqb, and_parts, and_from}
use Rattle.std.proofs.lemmas.Bool.Decides.{nat_tests}
use Rattle.std.proofs.lemmas.List.{get_or-set_same, get_or-set_other}
use Rattle.std.proofs.lemmas.List.Folds.{list_any-append}
use Rattle.light_base.specs.declared.tag.Tag.{Tag}
use Rattle.light_base.specs.Tags.{bits_of, writer_of}
use Rattle.replay_model.specs.declared.Entry.{Entry}
use Rattle.replay_model.specs.Steps.{same_tag}
use Rattle.replay_model.specs.MoreReads.{is_entry_for}
use Rattle.replay_model.proofs.Tags.{same_tag-true, same_tag-same}
use Rattle.log_file.specs.LogReading.{ends_late}
use Rattle.log_file.specs.Seen.{IsNumbered, pair_of}

-- two answers are the same where each follows from the other
pub same_answers : (a b : Bool) → (a ≡ true → b ≡ true) → (b ≡ true → a ≡ true) → a ≡ b
same_answers true b f g = sym (f refl)
same_answers false true f g = g refl
same_answers false false f g = refl

-- equal numbers are those of equal pairs
pair-same : (w v : ℕ) (s t : Tag) → IsNumbered s → IsNumbered t → pair_of w s ≡ pair_of v t → (w ≡ v) × (s ≡ t)
unfolding pair_of
pair-same w v s t a b e =
    let bits : bits_of s ≡ bits_of t = omega (arith, a.fits, b.fits, e) in
    (omega (arith, a.fits, b.fits, e), sym a.back ∙ ap writer_of bits ∙ b.back)

-- so the test on numbers is that on pairs
pair-test : (w : ℕ) (s : Tag) (e : Entry) → IsNumbered s → IsNumbered e.source → eqb (pair_of w s) (pair_of e.word e.source) ≡ is_entry_for w s e
pair-test w s e a b = same_answers _ _ there back
  where
    there : eqb (pair_of w s) (pair_of e.word e.source) ≡ true → is_entry_for w s e ≡ true
    there h =
        let same = pair-same w e.word s e.source a b (eqb-true _ _ h) in
        and_from (eqb w e.word) (same_tag s e.source) (eq-eqb w e.word same.0) (subst (λ (t : Tag). same_tag s t ≡ true) same.1 (same_tag-same s))

    back : is_entry_for w s e ≡ true → eqb (pair_of w s) (pair_of e.word e.source) ≡ true
    back h =
        let both = and_parts (eqb w e.word) (same_tag s e.source) h in
        eq-eqb _ _ (ap (λ (n : ℕ). pair_of n s) (eqb-true w e.word both.0) ∙ ap (pair_of e.word) (same_tag-true s e.source both.1))

pub one_more : {A : Type 0} (p : A → Bool) (xs : List A) (x : A) → list_any p (xs ++ x ∷ []) ≡ (list_any p xs || p x)
one_more p xs x = list_any-append p xs (x ∷ []) ∙ tidy (p x)
  where
    tidy : (b : Bool) → (list_any p xs || (b || false)) ≡ (list_any p xs || b)
    tidy true = refl
    tidy false = refl

-- numbers with one more pair have those of one more entry
pub pairs_more : (w : ℕ) (s : Tag) (entries : List Entry) (e : Entry) (numbers : List ℕ) → IsNumbered s → IsNumbered e.source →
    list_any (eqb (pair_of w s)) numbers ≡ list_any (is_entry_for w s) entries →
    list_any (eqb (pair_of w s)) (numbers ++ pair_of e.word e.source ∷ []) ≡ list_any (is_entry_for w s) (entries ++ e ∷ [])
pairs_more w s entries e numbers a b knew =
    one_more (eqb (pair_of w s)) numbers (pair_of e.word e.source) ∙ ap (λ (t : Bool). t || eqb (pair_of w s) (pair_of e.word e.source)) knew ∙
    ap (λ (t : Bool). list_any (is_entry_for w s) entries || t) (pair-test w s e a b) ∙ sym (one_more (is_entry_for w s) entries e)

or_not : (a : Bool) → a ≡ (a || false)
or_not true = refl
or_not false = refl

leb_max : (n a b : ℕ) → leb n (max a b) ≡ (leb n a || leb n b)
leb_max n a b = grind (arith, nat_tests)

-- the end of a word after one more entry
pub ends_more : (ends : List ℕ) (w n : ℕ) (entries : List Entry) (e : Entry) → e.word < length ends → leb n (get_or ends w 0) ≡ list_any (ends_late w n) entries →
    leb n (get_or (set ends e.word (max (get_or ends e.word 0) e.last)) w 0) ≡ list_any (ends_late w n) (entries ++ e ∷ [])
ends_more ends w n entries e there knew = go (cases_eq w e.word) ∙ sym (one_more (ends_late w n) entries e)
  where
    now : List ℕ
    now = set ends e.word (max (get_or ends e.word 0) e.last)

    go : (w ≡ e.word) ⊎ (w ≢ e.word) → leb n (get_or now w 0) ≡ (list_any (ends_late w n) entries || ends_late w n e)
    go (inl same) =
        let own : get_or now w 0 ≡ max (get_or ends w 0) e.last =
        ap (λ (v : ℕ). get_or now v 0) same ∙ get_or-set_same ends e.word (max (get_or ends e.word 0) e.last) 0 there ∙ ap (λ (v : ℕ). max (get_or ends v 0) e.last) (sym same) in
        let here : ends_late w n e ≡ leb n e.last = ap (λ (b : Bool). b && leb n e.last) (eq-eqb w e.word same) in
        ap (leb n) own ∙ leb_max n (get_or ends w 0) e.last ∙ ap (λ (b : Bool). b || leb n e.last) knew ∙ ap (λ (b : Bool). list_any (ends_late w n) entries || b) (sym here)
    go (inr other) =
        let not_here : ends_late w n e ≡ false = ap (λ (b : Bool). b && leb n e.last) (ne_eqb w e.word other) in
        ap (leb n) (get_or-set_other ends e.word w (max (get_or ends e.word 0) e.last) 0 other) ∙ knew ∙ or_not (list_any (ends_late w n) entries) ∙
        ap (λ (b : Bool). list_any (ends_late w n) entries || b) (sym not_here)
