-- The policies of a text (document 02, slip 13): its first line decides the format.
use Rattle.net.specs.Choice.{choose}
use Rattle.readers.specs.Reader.{Reader, pure, ◌>>=◌}
use Rattle.linking.specs.Source.{Policy, plain, by_origin}
use Rattle.rows.specs.Rows.{rows}
use Rattle.rows.specs.OriginRows.{is_origin_row, origin_rows}

unfoldable pub plain_rows : Reader Policy
plain_rows = do
  rs ← rows
  pure (plain rs)

unfoldable pub rows_by_origin : Reader Policy
rows_by_origin = do
  rss ← origin_rows
  pure (by_origin rss)

-- rows by origin, where the first line is one
unfoldable pub policy : Reader Policy
policy s p = choose (is_origin_row s p) rows_by_origin plain_rows s p
