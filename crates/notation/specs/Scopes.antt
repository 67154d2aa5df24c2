-- What the lines of a text are judged by, once its policies are known (document 02, slip 13): "addresses are judged against n".
use Rattle.linking.specs.Source.{Policy}
use Rattle.linking.specs.Compiled.{format_of, addresses_of}
use Rattle.notation.specs.Types.{Scope}

unfoldable pub scope_of : Policy → Scope
scope_of p = record { addresses = addresses_of p; format = format_of p }
