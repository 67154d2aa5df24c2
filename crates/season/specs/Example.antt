-- Document 02's lines, of five made runs: ties at address 0, where a pick is answered 9; an address not in use, answered 8;
-- tuples in a node that is not in use.
use Rattle.std.specs.Prelude.{◌≡◌, List, [], ◌∷◌, ◌++◌, ℕ}
use Rattle.net.specs.Records.{address_of, with_node, with_counts, empty_net, zero_row, alike}
use Rattle.text.specs.Bytes.{bytes}
use Rattle.season.specs.Types.{Net, Node}
use Rattle.season.specs.Season.{MadeRun, figures_of}

unfoldable pub holding : ℕ → Node
holding n = record { rows = alike zero_row; processes = []; stored = n; tuples = [] }

-- three tuples at address 0, the only one in use
unfoldable pub three_left : Net
three_left = with_counts (with_node (with_node empty_net (address_of 0) (holding 3)) (address_of 5) (holding 2)) 1 1

unfoldable pub made_with : List ℕ → List ℕ → MadeRun
made_with picks answers = record { picks = picks; answers = answers; net = three_left }

unfoldable pub five_runs : List MadeRun
five_runs =
    made_with (0 ∷ 4 ∷ 0 ∷ 8 ∷ 1 ∷ 12 ∷ []) (0 ∷ 2 ∷ 7 ∷ 7 ∷ 9 ∷ 4 ∷ [])
    ∷ made_with [] []
    ∷ made_with (0 ∷ 16 ∷ []) (2 ∷ 8 ∷ [])
    ∷ made_with (0 ∷ 0 ∷ 4 ∷ []) (0 ∷ 0 ∷ 1 ∷ [])
    ∷ made_with (0 ∷ []) (0 ∷ [])
    ∷ []

unfoldable pub PaperLines : Type 0
PaperLines =
    figures_of five_runs
    ≡ bytes "share 0 1/2 3/1 4\nshare 1 0/1 0/1 3\nshare 2 none 0/1 none\nshare 3 none 0/1 none\n"
    ++ bytes "share 4 none 0/1 none\nshare 5 none 0/1 none\nshare 6 none 0/1 none\nshare 7 none 0/1 none\n"
    ++ bytes "share 8 none 0/1 none\nshare 9 none 0/1 none\nshare 10 none 0/1 none\nshare 11 none 0/1 none\n"
    ++ bytes "share 12 none 0/1 none\nshare 13 none 0/1 none\nshare 14 none 0/1 none\nshare 15 none 0/1 none\n"
