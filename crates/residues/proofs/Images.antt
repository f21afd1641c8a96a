-- The images of words.
--     image_modulo            a word's image is its matrix modulo 7, up to sign
--     agreed_images           words whose matrices are the same modulo 7, up to sign, have equal images
--     equal_images            equal words have equal images
--     image_walked            the image of a word behind another, letter by letter
--     image_product           and as the product of both images
--     number_small            every matrix of determinant 1 has a number
--     product_image           the product of the images of a series' factors is the image of its letters
-- Assumes nothing.
use mathlib.Core.Path.{◌≡◌, refl, sym, ap, ◌∙◌}
use mathlib.Core.List.{List, [], ◌∷◌, ◌++◌, flat_map}
use Prim.Native.Nat.{ℕ, ◌<◌}
use lib.Dec.{lit<}
use lib.IntN.{pos}
use Rattle.words.specs.Word.{Word, Equal}
use Rattle.unimodular.specs.Matrix.{Matrix, unit, times, determinant, matrix_of_letter, matrix_of}
use Rattle.unimodular.proofs.Product.{times_assoc, times_unit, unit_times, matrix_of_append}
use Rattle.unimodular.proofs.Faithful.{matrix_of_equal}
use Rattle.unimodular.proofs.Descent.{normal_form_exists}
use Rattle.products.specs.Product.{Family, spelled}
use Rattle.residues.specs.Residues.{Agree, numbering, quadruples, number_of, numbered, image, times_letter, multiplied, image_of}
use Rattle.residues.proofs.Numbering.{agree_sign, agree_sym, agree_times, Shows, shows_number, number_shows, shows_agree, shows_times_letter}

-- a word's letters on the right, one after the other
abbrev pub walked : ℕ → Word → ℕ
walked k [] = k
walked k (x ∷ w) = walked (times_letter k x) w

unit_small : number_of unit < 168
unfolding number_of numbering quadruples flat_map
unit_small = lit< tt

shows_unit : Shows unit (number_of unit)
shows_unit = number_shows unit unit_small

shows_walked : (m : Matrix) (k : ℕ) (w : Word) → Shows m k → Shows (times m (matrix_of w)) (walked k w)
shows_walked m k [] s = rw (times_unit m) s
shows_walked m k (x ∷ w) s = rw (← times_assoc m (matrix_of_letter x) (matrix_of w)) (shows_walked (times m (matrix_of_letter x)) (times_letter k x) w (shows_times_letter m k x s))

shows_word : (w : Word) → Shows (matrix_of w) (walked (number_of unit) w)
shows_word w = rw (unit_times (matrix_of w)) at (shows_walked unit (number_of unit) w shows_unit)

pub image_shows : (w : Word) → Shows (matrix_of w) (image w)
unfolding image
image_shows w = rw (shows_number (shows_word w)) (shows_word w)

pub image_small : (w : Word) → image w < 168
image_small w = (image_shows w).small

-- "the image of a word is its matrix modulo 7 up to sign"
pub image_modulo : (w : Word) → Agree (matrix_of w) (numbered (image w))
image_modulo w = (image_shows w).agrees

pub image_nothing : image [] ≡ number_of unit
unfolding image
image_nothing = refl

-- whatever number a word's matrix is shown to have is its image
shown_image : {k : ℕ} (w : Word) → Shows (matrix_of w) k → image w ≡ k
unfolding image
shown_image w s = shows_number s

pub agreed_images : (u v : Word) → Agree (matrix_of u) (matrix_of v) → image u ≡ image v
agreed_images u v a = shown_image u (shows_agree (matrix_of u) a (image_shows v))

pub equal_images : {u v : Word} → Equal u v → image u ≡ image v
equal_images {u} {v} e = agreed_images u v (agree_sign (matrix_of u) (matrix_of v) (matrix_of_equal e))

pub image_walked : (u v : Word) → image (u ++ v) ≡ walked (image u) v
image_walked u v = shown_image (u ++ v) (rw (matrix_of_append u v) (shows_walked (matrix_of u) (image u) v (image_shows u)))

pub walked_image : (w : Word) → walked (number_of unit) w ≡ image w
walked_image w = sym (shown_image w (shows_word w))

pub image_product : (u v : Word) → image (u ++ v) ≡ multiplied (image u) (image v)
unfolding multiplied
image_product u v =
    sym
    (shows_number
    (shows_agree (times (numbered (image u)) (numbered (image v)))
    (agree_sym (times (matrix_of u) (matrix_of v)) (times (numbered (image u)) (numbered (image v)))
    (agree_times (matrix_of u) (numbered (image u)) (matrix_of v) (numbered (image v)) (image_modulo u) (image_modulo v)))
    (rw (matrix_of_append u v) at (image_shows (u ++ v)))))

-- every matrix of determinant 1 has a number
pub number_small : (m : Matrix) → determinant m ≡ pos 1 → number_of m < 168
number_small m one =
    let (w, form) = normal_form_exists m one in
    let shown = shows_agree m (agree_sym (matrix_of w) m (agree_sign (matrix_of w) m form.matrix)) (image_shows w) in
    rw (shows_number shown) (image_small w)

pub product_image : (family : Family) (r : List ℕ) → image_of family r ≡ image (spelled family.word_of r)
product_image family [] = sym image_nothing
product_image family (i ∷ r) =
    ap (multiplied (image (family.word_of i))) (product_image family r) ∙ sym (image_product (family.word_of i) (spelled family.word_of r))
