-- Texts with the HTML that they mean, by the sections of CommonMark 0.31.2 and, for tables, of GitHub Flavored Markdown 0.29.
mod Tabs
mod Characters
mod LeafBlocks
mod HtmlBlocks
mod Definitions
mod BlockQuotes
mod ListItems
mod Lists
mod CodeSpans
mod Emphasis
mod Links
mod Images
mod Autolinks
mod RawHtml
mod LineBreaks
mod Tables
mod Parts
