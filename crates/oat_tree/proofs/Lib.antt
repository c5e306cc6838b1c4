pub mod SeenLists
