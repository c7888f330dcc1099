-- Rows of bytes as rows of blocks, and back.
use Rattle.std.proofs.Common.{◌≡◌, ℕ, zero, suc, ◌+◌, ◌-◌, ◌*◌, ◌/◌, ◌%◌, ◌<◌, ◌≤◌, List, [], ◌∷◌, ◌++◌, length, take, drop, sym, refl, ap, ◌∙◌, ap₂, add-one, arith}
use Rattle.std.proofs.lemmas.List.Elements.{All-nil, All-cons, All-head, All-tail, All-append, All-take, All-drop}
use Rattle.std.proofs.lemmas.List.{append_assoc, append-nil, length-append, length-drop, length-take-le, take_at, drop_at, drop-drop, drop_all, take-append-drop}
use Rattle.std.specs.List.{between, All}
use Rattle.cipher.specs.Block.{Byte, Bytes, Block, be_bytes, be_number, first_blocks, as_blocks, as_bytes}
use Rattle.cipher.proofs.Numbers.{block_bytes, block_of_bytes, bytes_of_block, number_block}

-- ---- lengths, and what kind of numbers these are

pub length-first_blocks : (n : ℕ) (xs : List ℕ) → length (first_blocks n xs) ≡ n
unfolding first_blocks
length-first_blocks zero xs = refl
length-first_blocks (suc n) xs = ap suc (length-first_blocks n (drop 8 xs))

pub length-as_blocks : (xs : List ℕ) → length (as_blocks xs) ≡ length xs / 8
unfolding as_blocks
length-as_blocks xs = length-first_blocks (length xs / 8) xs

pub length-as_bytes : (bs : List ℕ) → length (as_bytes bs) ≡ 8 * length bs
unfolding as_bytes
length-as_bytes [] = refl
length-as_bytes (b ∷ bs) = length-append (be_bytes 8 b) (as_bytes bs) ∙ omega (arith, (block_bytes b).0, length-as_bytes bs)

-- the first eight of at least eight bytes
pub first_eight : (xs : List ℕ) → All Byte xs → 8 ≤ length xs → Bytes 8 (take 8 xs)
first_eight xs each room = (length-take-le 8 xs room, All-take Byte 8 xs each)

pub first_blocks-blocks : (n : ℕ) (xs : List ℕ) → All Byte xs → 8 * n ≤ length xs → All Block (first_blocks n xs)
unfolding first_blocks
first_blocks-blocks zero xs each room = All-nil Block
first_blocks-blocks (suc n) xs each room =
    All-cons Block (be_number (take 8 xs)) (first_blocks n (drop 8 xs)) (number_block (take 8 xs) (first_eight xs each (omega arith)))
    (first_blocks-blocks n (drop 8 xs) (All-drop Byte 8 xs each) (omega (arith, length-drop 8 xs)))

pub as_blocks-blocks : (xs : List ℕ) → All Byte xs → All Block (as_blocks xs)
unfolding as_blocks
as_blocks-blocks xs each = first_blocks-blocks (length xs / 8) xs each (omega arith)

pub as_bytes-bytes : (bs : List ℕ) → All Byte (as_bytes bs)
unfolding as_bytes
as_bytes-bytes [] = All-nil Byte
as_bytes-bytes (b ∷ bs) = All-append Byte (be_bytes 8 b) (as_bytes bs) (block_bytes b).1 (as_bytes-bytes bs)

pub as_bytes-append : (bs cs : List ℕ) → as_bytes (bs ++ cs) ≡ as_bytes bs ++ as_bytes cs
unfolding as_bytes
as_bytes-append [] cs = refl
as_bytes-append (b ∷ bs) cs = ap (λ xs. be_bytes 8 b ++ xs) (as_bytes-append bs cs) ∙ sym (append_assoc (be_bytes 8 b) (as_bytes bs) (as_bytes cs))

-- one block is its eight bytes
pub as_bytes-one : (b : ℕ) → as_bytes (b ∷ []) ≡ be_bytes 8 b
unfolding as_bytes
as_bytes-one b = append-nil (be_bytes 8 b)

-- ---- there and back

pub first_blocks-of_bytes : (b : ℕ) (n : ℕ) (xs : List ℕ) → Block b → first_blocks (suc n) (be_bytes 8 b ++ xs) ≡ b ∷ first_blocks n xs
unfolding first_blocks
first_blocks-of_bytes b n xs h =
    ap₂ (λ front rest. be_number front ∷ first_blocks n rest) (take_at (be_bytes 8 b) xs 8 (block_bytes b).0) (drop_at (be_bytes 8 b) xs 8 (block_bytes b).0)
    ∙ ap (λ c. c ∷ first_blocks n xs) (block_of_bytes b h)

-- blocks are read back from their bytes, whatever follows
pub first_blocks-as_bytes : (bs xs : List ℕ) → All Block bs → first_blocks (length bs) (as_bytes bs ++ xs) ≡ bs
unfolding first_blocks as_bytes
first_blocks-as_bytes [] xs each = refl
first_blocks-as_bytes (b ∷ bs) xs each =
    ap (first_blocks (suc (length bs))) (append_assoc (be_bytes 8 b) (as_bytes bs) xs)
    ∙ first_blocks-of_bytes b (length bs) (as_bytes bs ++ xs) (All-head Block b bs each)
    ∙ ap (λ cs. b ∷ cs) (first_blocks-as_bytes bs xs (All-tail Block b bs each))

pub as_blocks-as_bytes : (bs : List ℕ) → All Block bs → as_blocks (as_bytes bs) ≡ bs
unfolding as_blocks
as_blocks-as_bytes bs each =
    let n : length (as_bytes bs) / 8 ≡ length bs = omega (arith, length-as_bytes bs) in
    ap₂ first_blocks n (sym (append-nil (as_bytes bs))) ∙ first_blocks-as_bytes bs [] each

-- bytes are written again from their blocks
pub as_bytes-first_blocks : (n : ℕ) (xs : List ℕ) → All Byte xs → 8 * n ≤ length xs → as_bytes (first_blocks n xs) ++ drop (8 * n) xs ≡ xs
unfolding first_blocks as_bytes
as_bytes-first_blocks zero xs each room = refl
as_bytes-first_blocks (suc n) xs each room =
    let here : be_bytes 8 (be_number (take 8 xs)) ≡ take 8 xs = bytes_of_block (take 8 xs) (first_eight xs each (omega arith)) in
    let on : drop (8 * suc n) xs ≡ drop (8 * n) (drop 8 xs) = ap (λ k. drop k xs) (omega arith) ∙ sym (drop-drop (8 * n) 8 xs) in
    let rest = as_bytes-first_blocks n (drop 8 xs) (All-drop Byte 8 xs each) (omega (arith, length-drop 8 xs)) in
    ap₂ (λ front more. (front ++ as_bytes (first_blocks n (drop 8 xs))) ++ more) here on
    ∙ append_assoc (take 8 xs) (as_bytes (first_blocks n (drop 8 xs))) (drop (8 * n) (drop 8 xs))
    ∙ ap (λ more. take 8 xs ++ more) rest ∙ take-append-drop 8 xs

pub as_bytes-as_blocks : (xs : List ℕ) → All Byte xs → length xs % 8 ≡ 0 → as_bytes (as_blocks xs) ≡ xs
unfolding as_blocks
as_bytes-as_blocks xs each whole =
    let n = length xs / 8 in
    let none : drop (8 * n) xs ≡ [] = drop_all (8 * n) xs (omega arith) in
    sym (append-nil (as_bytes (first_blocks n xs))) ∙ ap (λ rest. as_bytes (first_blocks n xs) ++ rest) (sym none) ∙ as_bytes-first_blocks n xs each (omega arith)

-- ---- block after block

-- one block more at the end
pub first_blocks-more : (n : ℕ) (xs : List ℕ) → first_blocks (n + 1) xs ≡ first_blocks n xs ++ be_number (take 8 (drop (8 * n) xs)) ∷ []
unfolding first_blocks
first_blocks-more zero xs = refl
first_blocks-more (suc n) xs =
    let on : drop (8 * n) (drop 8 xs) ≡ drop (8 * suc n) xs = drop-drop (8 * n) 8 xs ∙ ap (λ k. drop k xs) (omega arith) in
    let more : first_blocks (suc n) (drop 8 xs) ≡ first_blocks n (drop 8 xs) ++ be_number (take 8 (drop (8 * n) (drop 8 xs))) ∷ [] = rw add-one at (first_blocks-more n (drop 8 xs)) in
    rw add-one (ap (λ bs. be_number (take 8 xs) ∷ bs) (more ∙ ap (λ ys. first_blocks n (drop 8 xs) ++ be_number (take 8 ys) ∷ []) on))

-- the first block, and the others
pub as_blocks-first : (xs : List ℕ) → 8 ≤ length xs → as_blocks xs ≡ be_number (take 8 xs) ∷ as_blocks (drop 8 xs)
unfolding as_blocks first_blocks
as_blocks-first xs room =
    let n : length xs / 8 ≡ suc (length (drop 8 xs) / 8) = omega (arith, length-drop 8 xs) in
    ap (λ k. first_blocks k xs) n

pub as_blocks-none : (xs : List ℕ) → length xs < 8 → as_blocks xs ≡ []
unfolding as_blocks first_blocks
as_blocks-none xs few =
    let n : length xs / 8 ≡ 0 = omega arith in
    ap (λ k. first_blocks k xs) n

-- the block that a walk over blocks is at
pub as_blocks-at : (i : ℕ) (xs : List ℕ) → 8 * i + 8 ≤ length xs → as_blocks (drop (8 * i) xs) ≡ be_number (between (8 * i) (8 * i + 8) xs) ∷ as_blocks (drop (8 * (i + 1)) xs)
as_blocks-at i xs room =
    let eight : 8 ≡ 8 * i + 8 - 8 * i = omega arith in
    let on : drop 8 (drop (8 * i) xs) ≡ drop (8 * (i + 1)) xs = drop-drop 8 (8 * i) xs ∙ ap (λ k. drop k xs) (omega arith) in
    as_blocks-first (drop (8 * i) xs) (omega (arith, length-drop (8 * i) xs))
    ∙ ap₂ (λ k rest. be_number (take k (drop (8 * i) xs)) ∷ as_blocks rest) eight on
