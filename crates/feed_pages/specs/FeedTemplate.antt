-- The template of the feed, whose text is an Atom feed. After RFC 4287.
use Rattle.std.specs.Prelude.{ℕ, List, ◌++◌, codes}

abbrev pub template_head : List ℕ
template_head =
    codes "<?xml version=\"1.0\" encoding=\"utf-8\"?>\n" ++ (
    codes "<feed xmlns=\"http://www.w3.org/2005/Atom\">\n" ++ (
    codes "<title>{{ site.title | default: \"\" | xml_escape }}</title>\n" ++ (
    codes "<id>{{ \"/feed.xml\" | absolute_url | xml_escape }}</id>\n" ++
    codes "<updated>{{ site.posts.first.date | default: 0 | date_to_xmlschema }}</updated>\n")))

abbrev pub template_entry : List ℕ
template_entry = codes "{% for p in site.posts limit:10 %}<entry><title>{{ p.title | xml_escape }}</title><id>{{ p.url | absolute_url | xml_escape }}</id><link href=\"{{ p.url | absolute_url | xml_escape }}\"/><updated>{{ p.date | date_to_xmlschema }}</updated><content type=\"html\">{{ p.content | xml_escape }}</content></entry>\n"

abbrev pub feed_template : List ℕ
feed_template = template_head ++ (template_entry ++ codes "{% endfor %}</feed>\n")
