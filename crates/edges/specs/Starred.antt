-- The starred edges of document 01 ("Edges, those with * to be proved") as one claim about the definitions: what the
-- register says of an image and its picks. The bytes are those of edges.bin, which the program works through as well
-- (compared in tests/tests/edges.rs).
use Rattle.std.specs.Prelude.{ℕ, [], ◌∷◌, ◌≡◌}
use Rattle.text.specs.Bytes.{bytes}
use Rattle.registers.specs.Register.{register_of}

pub record StarredEdges : Type 0 where
  -- No bytes: 28.
  pub no_bytes :
      register_of
      ([])
      ([])
      ≡ bytes "refused 28 at 0\n"
  -- 10 80 20 00 00: accepted.
  pub one_stop :
      register_of
      (16 ∷ 128 ∷ 32 ∷ 0 ∷ 0 ∷ [])
      ([])
      ≡ bytes "net 1 1\nnode 0 0 0\ntotal 0\n"
  -- The same with last byte 01: 29.
  pub last_byte :
      register_of
      (16 ∷ 128 ∷ 32 ∷ 0 ∷ 1 ∷ [])
      ([])
      ≡ bytes "refused 29 at 35\n"
  -- The same with a sixth byte, whatever it is: 29.
  pub sixth_byte :
      (b : ℕ) →
      register_of
      (16 ∷ 128 ∷ 32 ∷ 0 ∷ 0 ∷ b ∷ [])
      ([])
      ≡ bytes "refused 29 at 35\n"
  -- The register's image with third byte 40: 30.
  pub no_put :
      register_of
      (16 ∷ 128 ∷ 64 ∷ 32 ∷ 0 ∷ 20 ∷ 0 ∷ 0 ∷ 0 ∷ 0 ∷ 160 ∷ 16 ∷ [])
      ([])
      ≡ bytes "refused 30 at 27\n"
  -- The register's run.
  pub listing :
      register_of
      (16 ∷ 128 ∷ 66 ∷ 32 ∷ 0 ∷ 20 ∷ 0 ∷ 0 ∷ 0 ∷ 0 ∷ 160 ∷ 16 ∷ [])
      (0 ∷ 0 ∷ 0 ∷ [])
      ≡ bytes "net 1 2\npick 1 0 0 0\npick 2 0 0 1\npick 3 0 0 7\nnode 0 1 0\ntuple 0 5 from 0\ntotal 1\n"
  -- Reading bits all ones: -1.
  pub all_ones :
      register_of
      (16 ∷ 128 ∷ 66 ∷ 32 ∷ 0 ∷ 143 ∷ 255 ∷ 255 ∷ 255 ∷ 242 ∷ 131 ∷ 255 ∷ 255 ∷ 255 ∷ 252 ∷ 2 ∷ 0 ∷ [])
      (0 ∷ [])
      ≡ bytes "net 1 2\npick 1 0 0 0\nnode 0 2 1\ntuple 0 -1 from 0\ntuple 0 -1 from 0\ntotal 2\n"
  -- Only the first bit set: -2147483648.
  pub first_bit :
      register_of
      (16 ∷ 128 ∷ 66 ∷ 32 ∷ 0 ∷ 136 ∷ 0 ∷ 0 ∷ 0 ∷ 2 ∷ 130 ∷ 0 ∷ 0 ∷ 0 ∷ 0 ∷ 2 ∷ 0 ∷ [])
      (0 ∷ [])
      ≡ bytes "net 1 2\npick 1 0 0 0\nnode 0 2 1\ntuple 0 -2147483648 from 0\ntuple 0 -2147483648 from 0\ntotal 2\n"
  -- An in at self, i held, no tuple: 2.
  pub nothing_to_take :
      register_of
      (16 ∷ 128 ∷ 72 ∷ 32 ∷ 0 ∷ 36 ∷ 128 ∷ 2 ∷ 0 ∷ [])
      (0 ∷ [])
      ≡ bytes "net 1 2\npick 1 0 0 2\nnode 0 0 1\ntotal 0\n"
  -- Out to 16 tuples: 3.
  pub full :
      register_of
      (16 ∷ 128 ∷ 66 ∷ 32 ∷ 8 ∷ 0 ∷ 0 ∷ 0 ∷ 0 ∷ 16 ∷ 0 ∷ 0 ∷ 0 ∷ 4 ∷ 0 ∷ 0 ∷ 0 ∷ 0 ∷ 192 ∷ 0 ∷ 0 ∷ 0 ∷
      32 ∷ 0 ∷ 0 ∷ 0 ∷ 5 ∷ 0 ∷ 0 ∷ 0 ∷ 0 ∷ 192 ∷ 0 ∷ 0 ∷ 0 ∷ 28 ∷ 0 ∷ 0 ∷ 0 ∷ 4 ∷ 0 ∷ 0 ∷ 0 ∷ 0 ∷ 144 ∷
      0 ∷ 0 ∷ 0 ∷ 20 ∷ 0 ∷ 0 ∷ 0 ∷ 2 ∷ 192 ∷ 0 ∷ 0 ∷ 0 ∷ 96 ∷ 0 ∷ 0 ∷ 0 ∷ 13 ∷ 0 ∷ 0 ∷ 0 ∷ 1 ∷ 192 ∷ 0 ∷
      0 ∷ 0 ∷ 60 ∷ 0 ∷ 0 ∷ 0 ∷ 8 ∷ 20 ∷ 0 ∷ 0 ∷ 0 ∷ 12 ∷ 128 ∷ 16 ∷ [])
      (0 ∷ [])
      ≡ bytes "net 1 2\npick 1 0 0 3\nnode 0 16 1\ntuple 0 1 from 0\ntuple 0 2 from 0\ntuple 0 3 from 0\ntuple 0 4 from 0\ntuple 0 5 from 0\ntuple 0 6 from 0\ntuple 0 7 from 0\ntuple 0 8 from 0\ntuple 0 9 from 0\ntuple 0 10 from 0\ntuple 0 11 from 0\ntuple 0 12 from 0\ntuple 0 13 from 0\ntuple 0 14 from 0\ntuple 0 15 from 0\ntuple 0 16 from 0\ntotal 16\n"
  -- Out to 15: 0.
  pub room :
      register_of
      (16 ∷ 128 ∷ 66 ∷ 32 ∷ 7 ∷ 128 ∷ 0 ∷ 0 ∷ 0 ∷ 16 ∷ 0 ∷ 0 ∷ 0 ∷ 4 ∷ 0 ∷ 0 ∷ 0 ∷ 0 ∷ 192 ∷ 0 ∷ 0 ∷ 0 ∷
      32 ∷ 0 ∷ 0 ∷ 0 ∷ 5 ∷ 0 ∷ 0 ∷ 0 ∷ 0 ∷ 192 ∷ 0 ∷ 0 ∷ 0 ∷ 28 ∷ 0 ∷ 0 ∷ 0 ∷ 4 ∷ 0 ∷ 0 ∷ 0 ∷ 0 ∷ 144 ∷
      0 ∷ 0 ∷ 0 ∷ 20 ∷ 0 ∷ 0 ∷ 0 ∷ 2 ∷ 192 ∷ 0 ∷ 0 ∷ 0 ∷ 96 ∷ 0 ∷ 0 ∷ 0 ∷ 13 ∷ 0 ∷ 0 ∷ 0 ∷ 1 ∷ 192 ∷ 0 ∷
      0 ∷ 0 ∷ 60 ∷ 160 ∷ 0 ∷ 0 ∷ 0 ∷ 100 ∷ 0 ∷ 128 ∷ [])
      (0 ∷ [])
      ≡ bytes "net 1 2\npick 1 0 0 0\nnode 0 16 1\ntuple 0 1 from 0\ntuple 0 2 from 0\ntuple 0 3 from 0\ntuple 0 4 from 0\ntuple 0 5 from 0\ntuple 0 6 from 0\ntuple 0 7 from 0\ntuple 0 8 from 0\ntuple 0 9 from 0\ntuple 0 10 from 0\ntuple 0 11 from 0\ntuple 0 12 from 0\ntuple 0 13 from 0\ntuple 0 14 from 0\ntuple 0 15 from 0\ntuple 0 100 from 0\ntotal 16\n"
  -- Row with i but not r, read at a variable holding self (document 02, slip 6): 0 where a tuple fits.
  pub covered :
      register_of
      (16 ∷ 128 ∷ 104 ∷ 32 ∷ 1 ∷ 16 ∷ 0 ∷ 0 ∷ 0 ∷ 0 ∷ 105 ∷ 40 ∷ 0 ∷ 184 ∷ 16 ∷ 128 ∷ 128 ∷ [])
      (0 ∷ 0 ∷ [])
      ≡ bytes "net 1 3\npick 1 0 0 0\npick 2 0 0 0\nnode 0 1 1\ntuple 0 3 from 0\ntotal 1\n"
  -- The same where none does: 2.
  pub covered_none :
      register_of
      (16 ∷ 128 ∷ 104 ∷ 32 ∷ 1 ∷ 16 ∷ 32 ∷ 146 ∷ 128 ∷ 11 ∷ 129 ∷ 8 ∷ 8 ∷ 0 ∷ [])
      (0 ∷ 0 ∷ [])
      ≡ bytes "net 1 3\npick 1 0 0 0\npick 2 0 0 2\nnode 0 1 1\ntuple 0 @0 from 0\ntotal 1\n"
  -- Formal reading against an address field: 2.
  pub other_sort :
      register_of
      (16 ∷ 128 ∷ 72 ∷ 32 ∷ 0 ∷ 144 ∷ 73 ∷ 0 ∷ 4 ∷ 0 ∷ [])
      (0 ∷ [])
      ≡ bytes "net 1 2\npick 1 0 0 2\nnode 0 1 1\ntuple 0 @0 from 0\ntotal 1\n"
  -- Two tuples fit: the older is taken, the younger stays.
  pub oldest :
      register_of
      (16 ∷ 128 ∷ 72 ∷ 32 ∷ 1 ∷ 0 ∷ 0 ∷ 0 ∷ 0 ∷ 112 ∷ 0 ∷ 0 ∷ 0 ∷ 16 ∷ 146 ∷ 0 ∷ 8 ∷ [])
      (0 ∷ [])
      ≡ bytes "net 1 2\npick 1 0 0 0\nnode 0 1 1\ntuple 0 8 from 0\ntotal 1\n"
