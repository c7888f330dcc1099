-- The way back is the same cipher under other round keys: α under `inverse ks` undoes α under ks, for any nine
-- round keys, and the other way round. So either map of Khazad undoes the other.
use Rattle.std.specs.Prelude.{◌≡◌, ℕ, zero, suc, ◌+◌, ◌-◌, ◌<◌, List, ◌==◌}
use Rattle.std.proofs.Math.Path.{refl, sym, ap, ap₂}
use Rattle.std.proofs.Common.{◌∙◌, subst, ⊎_elim}
use native.Mathlib.Omega.{arith}
use Rattle.std.proofs.lemmas.Bool.{cases_eq, ne_eqb, cond-false}
use Rattle.cipher.specs.Block.{Bytes, Block, Key, be_bytes, be_number, ◌⊕◌}
use Rattle.cipher.specs.Inverse.{Lawful}
use Rattle.cipher.proofs.Numbers.{block_bytes, block_of_bytes, bytes_of_block, number_block}
use Rattle.cipher.proofs.Rows.{⊕-bytes, ⊕-twice}
use Rattle.khazad.specs.Khazad.{γ, θ, K, ρ, rounds, α, inverse, encipher, decipher, enciphered, deciphered}
use Rattle.khazad.specs.Layers.{γ-bytes, γ-twice, θ-bytes, θ-xor}
use Rattle.khazad.specs.Schedule.{K-bytes}
use Rattle.khazad.specs.Twice.{θ-twice}

-- nine round keys
abbrev pub Nine : (ℕ → List ℕ) → Type 0
Nine ks = (r : ℕ) → r < 9 → Bytes 8 (ks r)

pub ρ-bytes : (k a : List ℕ) → Bytes 8 k → Bytes 8 a → Bytes 8 (ρ k a)
unfolding ρ
ρ-bytes k a hk ha = ⊕-bytes 8 (θ (γ a)) k (θ-bytes (γ a) (γ-bytes 8 a ha)) hk

-- a round back, under θ of its key, gives what γ makes of the state before the round
ρ-back : (k a : List ℕ) → Bytes 8 k → Bytes 8 a → ρ (θ k) (γ (ρ k a)) ≡ γ a
unfolding ρ
ρ-back k a hk ha =
    let hγ : Bytes 8 (γ a) = γ-bytes 8 a ha in
    let hθ : Bytes 8 (θ (γ a)) = θ-bytes (γ a) hγ in
    let hs : Bytes 8 (θ (γ a) ⊕ k) = ⊕-bytes 8 (θ (γ a)) k hθ hk in
    ap (λ z. θ z ⊕ θ k) (γ-twice (θ (γ a) ⊕ k) hs.1)
    ∙ sym (θ-xor (θ (γ a) ⊕ k) k hs hk)
    ∙ ap θ (⊕-twice (θ (γ a)) k (hθ.0 ∙ sym hk.0))
    ∙ θ-twice (γ a) hγ

-- ---- the keys of the way back

pub inverse-first : (ks : ℕ → List ℕ) → inverse ks 0 ≡ ks 8
unfolding inverse
inverse-first ks = refl

pub inverse-last : (ks : ℕ → List ℕ) → inverse ks 8 ≡ ks 0
unfolding inverse
inverse-last ks = refl

pub inverse-between : (ks : ℕ → List ℕ) (r j : ℕ) → r + j ≡ 6 → inverse ks (suc j) ≡ θ (ks (suc r))
unfolding inverse
inverse-between ks r j e =
    let at : 8 - suc j ≡ suc r = omega arith in
    cond-false (suc j == 0) _ _ (ne_eqb (suc j) 0 (λ q. omega arith))
    ∙ cond-false (suc j == 8) _ _ (ne_eqb (suc j) 8 (λ q. omega arith))
    ∙ ap (λ n. θ (ks n)) at

-- what holds at 0, at 8 and between holds at each of nine
nine_cases : (G : ℕ → Type 0) → G 0 → G 8 → ((r j : ℕ) → r + j ≡ 6 → G (suc j)) → (r : ℕ) → r < 9 → G r
nine_cases G first last between zero h = first
nine_cases G first last between (suc j) h =
    ⊎_elim (λ (e : j ≡ 7). subst (λ n. G (suc n)) (sym e) last) (λ ne. between (6 - j) j (omega arith)) (cases_eq j 7)

pub inverse-nine : (ks : ℕ → List ℕ) → Nine ks → Nine (inverse ks)
inverse-nine ks h =
    nine_cases (λ r. Bytes 8 (inverse ks r))
    (subst (Bytes 8) (sym (inverse-first ks)) (h 8 (omega arith)))
    (subst (Bytes 8) (sym (inverse-last ks)) (h 0 (omega arith)))
    (λ r j e. subst (Bytes 8) (sym (inverse-between ks r j e)) (θ-bytes (ks (suc r)) (h (suc r) (omega arith))))

inverse-twice : (ks : ℕ → List ℕ) → Nine ks → (r : ℕ) → r < 9 → inverse (inverse ks) r ≡ ks r
inverse-twice ks h =
    nine_cases (λ r. inverse (inverse ks) r ≡ ks r)
    (inverse-first (inverse ks) ∙ inverse-last ks)
    (inverse-last (inverse ks) ∙ inverse-first ks)
    (λ r j e. inverse-between (inverse ks) r j e ∙ ap θ (inverse-between ks j r (omega arith)) ∙ θ-twice (ks (suc j)) (h (suc j) (omega arith)))

-- ---- the cipher under any nine round keys

module _ (ks : ℕ → List ℕ) (nine : Nine ks) where
  pub rounds-bytes : (n : ℕ) → n < 9 → (a : List ℕ) → Bytes 8 a → Bytes 8 (rounds ks n a)
  unfolding rounds
  rounds-bytes zero l a h = h
  rounds-bytes (suc n) l a h = ρ-bytes (ks (suc n)) (rounds ks n a) (nine (suc n) l) (rounds-bytes n (omega arith) a h)

  pub α-bytes : (a : List ℕ) → Bytes 8 a → Bytes 8 (α ks a)
  unfolding α
  α-bytes a h =
      ⊕-bytes 8 (γ (rounds ks 7 (a ⊕ ks 0))) (ks 8)
      (γ-bytes 8 (rounds ks 7 (a ⊕ ks 0)) (rounds-bytes 7 (omega arith) (a ⊕ ks 0) (⊕-bytes 8 a (ks 0) h (nine 0 (omega arith)))))
      (nine 8 (omega arith))

  -- after j rounds back from the seventh, the state is γ of the state after r rounds there
  rounds-back : (a : List ℕ) → Bytes 8 a → (j r : ℕ) → r + j ≡ 7 → rounds (inverse ks) j (γ (rounds ks 7 a)) ≡ γ (rounds ks r a)
  unfolding rounds
  rounds-back a h zero r e = let s : 7 ≡ r = omega arith in ap (λ n. γ (rounds ks n a)) s
  rounds-back a h (suc j) r e =
      ap₂ ρ (inverse-between ks r j (omega arith)) (rounds-back a h j (suc r) (omega arith))
      ∙ ρ-back (ks (suc r)) (rounds ks r a) (nine (suc r) (omega arith)) (rounds-bytes r (omega arith) a h)

  pub α-back : (a : List ℕ) → Bytes 8 a → α (inverse ks) (α ks a) ≡ a
  unfolding α rounds
  α-back a h =
      let start = a ⊕ ks 0 in
      let hs : Bytes 8 start = ⊕-bytes 8 a (ks 0) h (nine 0 (omega arith)) in
      let hr : Bytes 8 (γ (rounds ks 7 start)) = γ-bytes 8 (rounds ks 7 start) (rounds-bytes 7 (omega arith) start hs) in
      ap₂ (λ first last. γ (rounds (inverse ks) 7 ((γ (rounds ks 7 start) ⊕ ks 8) ⊕ first)) ⊕ last) (inverse-first ks) (inverse-last ks)
      ∙ ap (λ z. γ (rounds (inverse ks) 7 z) ⊕ ks 0) (⊕-twice (γ (rounds ks 7 start)) (ks 8) (hr.0 ∙ sym (nine 8 (omega arith)).0))
      ∙ ap (λ z. γ z ⊕ ks 0) (rounds-back start hs 7 0 refl)
      ∙ ap (λ z. z ⊕ ks 0) (γ-twice start hs.1)
      ∙ ⊕-twice a (ks 0) (h.0 ∙ sym (nine 0 (omega arith)).0)

-- the cipher depends on its nine round keys alone
module _ (ks js : ℕ → List ℕ) (same : (r : ℕ) → r < 9 → ks r ≡ js r) where
  rounds-same : (n : ℕ) → n < 9 → (a : List ℕ) → rounds ks n a ≡ rounds js n a
  unfolding rounds
  rounds-same zero l a = refl
  rounds-same (suc n) l a = ap₂ ρ (same (suc n) l) (rounds-same n (omega arith) a)

  pub α-same : (a : List ℕ) → α ks a ≡ α js a
  unfolding α
  α-same a =
      ap₂ (λ z k. γ z ⊕ k) (rounds-same 7 (omega arith) (a ⊕ ks 0) ∙ ap (λ k. rounds js 7 (a ⊕ k)) (same 0 (omega arith))) (same 8 (omega arith))

  pub inverse-same : (r : ℕ) → r < 9 → inverse ks r ≡ inverse js r
  inverse-same =
      nine_cases (λ r. inverse ks r ≡ inverse js r)
      (inverse-first ks ∙ same 8 (omega arith) ∙ sym (inverse-first js))
      (inverse-last ks ∙ same 0 (omega arith) ∙ sym (inverse-last js))
      (λ r j e. inverse-between ks r j e ∙ ap θ (same (suc r) (omega arith)) ∙ sym (inverse-between js r j e))

-- ---- the two maps of Khazad

module _ (key : List ℕ) (h : Key key) where
  keys : Nine (K key)
  keys = K-bytes key h

  encipher-bytes : (a : List ℕ) → Bytes 8 a → Bytes 8 (encipher key a)
  unfolding encipher
  encipher-bytes a ha = α-bytes (K key) keys a ha

  decipher-bytes : (a : List ℕ) → Bytes 8 a → Bytes 8 (decipher key a)
  unfolding decipher
  decipher-bytes a ha = α-bytes (inverse (K key)) (inverse-nine (K key) keys) a ha

  decipher-encipher : (a : List ℕ) → Bytes 8 a → decipher key (encipher key a) ≡ a
  unfolding encipher decipher
  decipher-encipher a ha = α-back (K key) keys a ha

  encipher-decipher : (a : List ℕ) → Bytes 8 a → encipher key (decipher key a) ≡ a
  unfolding encipher decipher
  encipher-decipher a ha =
      sym (α-same (inverse (inverse (K key))) (K key) (inverse-twice (K key) keys) (α (inverse (K key)) a))
      ∙ α-back (inverse (K key)) (inverse-nine (K key) keys) a ha

  pub enciphers_to_blocks : (b : ℕ) → Block (enciphered key b)
  unfolding enciphered
  enciphers_to_blocks b = number_block (encipher key (be_bytes 8 b)) (encipher-bytes (be_bytes 8 b) (block_bytes b))

  pub deciphers_to_blocks : (b : ℕ) → Block (deciphered key b)
  unfolding deciphered
  deciphers_to_blocks b = number_block (decipher key (be_bytes 8 b)) (decipher-bytes (be_bytes 8 b) (block_bytes b))

  pub deciphering_undoes : (b : ℕ) → Block b → deciphered key (enciphered key b) ≡ b
  unfolding enciphered deciphered
  deciphering_undoes b hb =
      let a = be_bytes 8 b in
      ap (λ z. be_number (decipher key z)) (bytes_of_block (encipher key a) (encipher-bytes a (block_bytes b)))
      ∙ ap be_number (decipher-encipher a (block_bytes b)) ∙ block_of_bytes b hb

  pub enciphering_undoes : (b : ℕ) → Block b → enciphered key (deciphered key b) ≡ b
  unfolding enciphered deciphered
  enciphering_undoes b hb =
      let a = be_bytes 8 b in
      ap (λ z. be_number (encipher key z)) (bytes_of_block (decipher key a) (decipher-bytes a (block_bytes b)))
      ∙ ap be_number (encipher-decipher a (block_bytes b)) ∙ block_of_bytes b hb

-- under every key either map undoes the other
pub khazad_lawful : Lawful enciphered deciphered
khazad_lawful k h =
    record {
      there_to_blocks = λ b _. enciphers_to_blocks k h b;
      back_to_blocks = λ b _. deciphers_to_blocks k h b;
      back_undoes = deciphering_undoes k h;
      there_undoes = enciphering_undoes k h;
    }
