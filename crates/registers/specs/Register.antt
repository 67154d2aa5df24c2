-- The register of an image or a text and its picks, of which the first 65,536 count (document 01, "The register").
use Rattle.std.specs.Prelude.{ℕ, List, [], ◌∷◌, ◌++◌, take}
use Rattle.image.specs.Image.{opened_of}
use Rattle.notation.specs.Text.{read_of}
use Rattle.run.specs.Run.{Outcome, refused, refused_text, ran, numbers, run_of, run_text_of}
use Rattle.lines.specs.Words.{Word, printed}
use Rattle.lines.specs.Shown.{Shown, named, all_parts, current}
use Rattle.lines.specs.Lines.{refusal_line, refused_line, net_line, pick_lines, after_lines}
use Rattle.registers.specs.Types.{Net}

-- of a net and its picks, by what their run comes to: the one line of a refusal, or the net, its picks and the net after
unfoldable pub register_lines : Shown → Net → List ℕ → Outcome → List (List Word)
register_lines shown s picks (refused f) = refused_line shown.parts f ∷ []
register_lines shown s picks (refused_text n) = refusal_line n ∷ []
register_lines shown s picks (ran r) =
    net_line s.addresses s.length ∷ (pick_lines picks (numbers r) ++ after_lines shown r.net)

-- the bytes, by what the run comes to
unfoldable pub register_in : Shown → Net → List ℕ → Outcome → List ℕ
register_in shown s picks outcome = printed (register_lines shown s picks outcome)

-- with so much shown
unfoldable pub register_as : Shown → List ℕ → List ℕ → List ℕ
register_as shown image picks = register_in shown (opened_of image).net (take 65536 picks) (run_of image (take 65536 picks))

unfoldable pub register_of : List ℕ → List ℕ → List ℕ
register_of image picks = register_as current image picks

-- the same of a text (document 02, slip 3)
unfoldable pub register_text_as : Shown → List ℕ → List ℕ → List ℕ
register_text_as shown text picks = register_in shown (read_of text).net (take 65536 picks) (run_text_of text (take 65536 picks))

unfoldable pub register_text_of : List ℕ → List ℕ → List ℕ
register_text_of text picks = register_text_as current text picks

-- with the names that a site's list and the office's give (document 02, slip 14)
unfoldable pub named_register_of : List ℕ → List ℕ → List ℕ → List ℕ → List ℕ
named_register_of site office image picks = register_as (named all_parts site office) image picks

unfoldable pub named_register_text_of : List ℕ → List ℕ → List ℕ → List ℕ → List ℕ
named_register_text_of site office text picks = register_text_as (named all_parts site office) text picks
